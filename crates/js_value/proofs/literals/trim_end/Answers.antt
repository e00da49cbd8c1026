use Rattle.std.proofs.Common.{◌≡◌, ◌+◌, ◌-◌, ◌<◌, true, false, [], ◌∷◌, ◌++◌, length, take, get_or, sym, ◌∙◌, ap, arith}
use Rattle.std.proofs.lemmas.List.{take_more}
use Rattle.js_value.specs.Numeral.{is_white_space}
use Rattle.js_value.specs.Literal.{trim_end}
use Rattle.js_value.proofs.Trimming.{trim_end_space, trim_end_other}
use Rattle.js_value.proofs.literals.trim_end.Goals as goal
use Rattle.js_value.proofs.literals.trim_end.Goals.{then-loop-end-test+else-is_white_space, else-loop-end-test}

pub loop-end-preserved : goal.loop-end-preserved
loop-end-preserved c =
    let here : c.loop-end.end - 1 < length c.args.text.now = omega (arith, c.loop-end-test.true, c.loop-end.invariant.0) in
    let again : c.loop-end.end - 1 + 1 ≡ c.loop-end.end = omega (arith, c.loop-end-test.true) in
    let split : take c.loop-end.end c.args.text.now ≡ take (c.loop-end.end - 1) c.args.text.now ++ get_or c.args.text.now (c.loop-end.end - 1) 0 ∷ [] =
    ap (λ n. take n c.args.text.now) (sym again) ∙ take_more c.args.text.now (c.loop-end.end - 1) 0 here in
    let space : is_white_space (get_or c.args.text.now (c.loop-end.end - 1) 0) ≡ true = sym c.is_white_space.ensures ∙ c.if-is_white_space.true in (
      omega arith,
      sym (trim_end_space (take (c.loop-end.end - 1) c.args.text.now) (get_or c.args.text.now (c.loop-end.end - 1) 0) space) ∙ ap trim_end (sym split) ∙ c.loop-end.invariant.1,
    )

pub returns : goal.returns
returns c =
    elim c.loop-end-test.branch [
      | then-loop-end-test+else-is_white_space w ↦
          (let here : c.loop-end.end - 1 < length c.args.text.now = omega (arith, w.loop-end-test.true, c.loop-end.invariant.0) in
          let again : c.loop-end.end - 1 + 1 ≡ c.loop-end.end = omega (arith, w.loop-end-test.true) in
          let split : take c.loop-end.end c.args.text.now ≡ take (c.loop-end.end - 1) c.args.text.now ++ get_or c.args.text.now (c.loop-end.end - 1) 0 ∷ [] =
          ap (λ n. take n c.args.text.now) (sym again) ∙ take_more c.args.text.now (c.loop-end.end - 1) 0 here in
          let other : is_white_space (get_or c.args.text.now (c.loop-end.end - 1) 0) ≡ false = sym w.is_white_space.ensures ∙ w.if-is_white_space.false in
          split ∙ sym (trim_end_other (take (c.loop-end.end - 1) c.args.text.now) (get_or c.args.text.now (c.loop-end.end - 1) 0) other) ∙ ap trim_end (sym split) ∙ c.loop-end.invariant.1)
      | else-loop-end-test w ↦
          (let none : c.loop-end.end ≡ 0 = omega (arith, w.loop-end-test.false) in
          ap (λ n. take n c.args.text.now) none ∙ ap trim_end (ap (λ n. take n c.args.text.now) (sym none)) ∙ c.loop-end.invariant.1)
    ]
