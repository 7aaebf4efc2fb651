-- A lent list as a query by value: the layer between the entries and the crates that they call. Assumes nothing: these are definitions.
use Rattle.std.specs.Prelude.{cond, List, ℕ, zero, suc, ltb, get_or, set, replicate}
use Rattle.meaning.specs.declared.Condition.{Condition}
use Rattle.meaning.specs.declared.Query.{Query}
use Rattle.meaning.specs.Query.{no-condition}
use Rattle.pouchmeadow.specs.declared.Terms.{Terms}

-- 32 places with no condition
unfoldable pub blank : List Condition
blank = replicate 32 no-condition

-- the first i of a list, in 32 places
unfoldable pub filled : List Condition → ℕ → List Condition
filled cs zero = blank
filled cs (suc i) = set (filled cs i) i (get_or cs i no-condition)

-- the query by value that counts n axis conditions and has the first i of them in place
abbrev pub gathered : Terms → List Condition → ℕ → ℕ → Query
gathered t cs n i = record {
  variables = t.variables;
  head_count = t.head_count;
  head = t.head;
  label_count = t.label_count;
  labels = t.labels;
  axis_count = n;
  axes = filled cs i;
}

-- how many of n records have a place
unfoldable pub few : ℕ → ℕ
few n = cond (ltb n 32) n 32

-- a query with the record c at place i of its axis conditions
abbrev pub placed : Query → ℕ → Condition → Query
placed q i c = record {
  variables = q.variables;
  head_count = q.head_count;
  head = q.head;
  label_count = q.label_count;
  labels = q.labels;
  axis_count = q.axis_count;
  axes = set q.axes i c;
}
