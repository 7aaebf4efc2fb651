use Rattle.std.proofs.Common.{◌<◌, ◌≤◌, ◌∙◌, rules, arith}
use Rattle.query_text.proofs.PutLaws.{on_err, put_head, put_label, put_axis, put_first, put_none, over_head, over_label, over_axis}
use Rattle.query_text.proofs.filling.Filling.put.Goals as goal

pub returns-in_err-q-in-Head : goal.returns-in_err-q-in-Head
returns-in_err-q-in-Head c =
    let w = c.args.self.now in
    let h = c.in_err-q-in-Head.ensures in
    let l : 8 ≤ w.query.head_count = search rules in
    on_err c.from_residual.result _ _ _ c.from_residual.ensures.1 (λ e d. (d ∙ h.0, over_head w.query w.item c.args.v c.in-Head.is l))

pub returns-in_err-q-in-Label : goal.returns-in_err-q-in-Label
returns-in_err-q-in-Label c =
    let w = c.args.self.now in
    let h = c.in_err-q-in-Label.ensures in
    let l : 32 ≤ w.query.label_count = search rules in
    on_err c.from_residual-in_err-q-in-Label.result _ _ _ c.from_residual-in_err-q-in-Label.ensures.1 (λ e d. (d ∙ h.0, over_label w.query w.item c.args.v _ c.in-Label.is l))

pub returns-in_err-q-in-Second : goal.returns-in_err-q-in-Second
returns-in_err-q-in-Second c =
    let w = c.args.self.now in
    let h = c.in_err-q-in-Second.ensures in
    let l : 32 ≤ w.query.axis_count = search rules in
    on_err c.from_residual-in_err-q-in-Second.result _ _ _ c.from_residual-in_err-q-in-Second.ensures.1 (λ e d. (d ∙ h.0, over_axis w.query w.item c.args.v _ _ c.in-Second.is l))

pub returns-in_ok-q-in-Head : goal.returns-in_ok-q-in-Head
returns-in_ok-q-in-Head c =
    let w = c.args.self.now in
    let h = c.in_ok-q-in-Head.ensures in
    let l : w.query.head_count < 8 = search rules in
    (put_head w.query w.item c.args.v _ _ c.in-Head.is l h.1 h.2, record { heads = omega (arith, l, h.2); labels = c.requires.labels; axes = c.requires.axes })

pub returns-in_ok-q-in-Label : goal.returns-in_ok-q-in-Label
returns-in_ok-q-in-Label c =
    let w = c.args.self.now in
    let h = c.in_ok-q-in-Label.ensures in
    let l : w.query.label_count < 32 = search rules in
    (put_label w.query w.item c.args.v _ _ _ c.in-Label.is l h.1 h.2, record { heads = c.requires.heads; labels = omega (arith, l, h.2); axes = c.requires.axes })

pub returns-in-Axis : goal.returns-in-Axis
returns-in-Axis c = let w = c.args.self.now in (put_first w.query w.item c.args.v _ c.in-Axis.is, c.requires)

pub returns-in_ok-q-in-Second : goal.returns-in_ok-q-in-Second
returns-in_ok-q-in-Second c =
    let w = c.args.self.now in
    let h = c.in_ok-q-in-Second.ensures in
    let l : w.query.axis_count < 32 = search rules in
    (put_axis w.query w.item c.args.v _ _ _ _ c.in-Second.is l h.1 h.2, record { heads = c.requires.heads; labels = c.requires.labels; axes = omega (arith, l, h.2) })

pub returns-in-Done : goal.returns-in-Done
returns-in-Done c = let w = c.args.self.now in (put_none w.query w.item c.args.v c.in-Done.is, c.requires)
