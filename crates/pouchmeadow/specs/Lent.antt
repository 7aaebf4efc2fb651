-- What is asked with a lent list of axis conditions. Assumes nothing: these are definitions.
use Rattle.std.specs.Prelude.{◌≡◌, refl, List}
use Rattle.meaning.specs.declared.Condition.{Condition}
use Rattle.meaning.specs.declared.Query.{Query}
use Rattle.meaning.specs.Query.{Question, firsts, asked, no-condition, no_label}
use Rattle.pouchmeadow.specs.declared.Terms.{Terms}

-- the question: the list itself is its list of axis conditions, however long it is
unfoldable pub lent : Terms → List Condition → Question
lent t cs = record {
  variables = t.variables;
  head = firsts 0 t.head t.head_count;
  labels = firsts no_label t.labels t.label_count;
  axes = cs;
}

-- a query by value but for its axis conditions
abbrev pub terms_of : Query → Terms
terms_of q = record {
  variables = q.variables;
  head_count = q.head_count;
  head = q.head;
  label_count = q.label_count;
  labels = q.labels;
}

-- with the axis conditions that it counts lent as a list, a query asks what it asks by value
pub lent_asks : (q : Query) → lent (terms_of q) (firsts no-condition q.axes q.axis_count) ≡ asked q
unfolding lent asked
lent_asks q = refl
