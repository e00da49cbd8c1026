use Rattle.std.proofs.Common.{◌≡◌, ◌<◌, [], ◌∷◌, length, sym, ◌∙◌, arith, subst}
use Rattle.std.proofs.lemmas.List.{nil_from_length, take_rest}
use Rattle.std.proofs.lemmas.Bool.Decides.{nat_tests}
use Rattle.js_value.specs.Case.{IsDecided}
use Rattle.js_value.proofs.Tables.{ascii_same, ascii_decided, cut_same, cut_decided, key_ended}
use Rattle.js_value.proofs.case.order.Goals as goal

pub returns-in-Err : goal.returns-in-Err
returns-in-Err c =
    let some : 0 < length c.loop-key_left.key_left.now = omega arith in
    ascii_decided c.loop-key_left.key_left.now some c.if-byte-lt128.true c.loop-key_left.text_left.now c.in-Err.order (subst (λ x. IsDecided (x ∷ []) c.loop-key_left.text_left.now c.in-Err.order) c.from.ensures c.in-Err.ensures.err)
    ∙ c.loop-key_left.invariant

pub loop-key_left-preserved-then-byte-lt128 : goal.loop-key_left-preserved-then-byte-lt128
loop-key_left-preserved-then-byte-lt128 c =
    let some : 0 < length c.loop-key_left.key_left.now = omega arith in
    let same = ascii_same c.loop-key_left.key_left.now some c.if-byte-lt128.true c.loop-key_left.text_left.now c.in-Ok.rest.now (rw c.from.ensures at c.in-Ok.ensures.ok) in
    rw (take_rest c.loop-key_left.key_left.now 1) (same ∙ c.loop-key_left.invariant)

pub returns-in-Err-cut_code_point : goal.returns-in-Err-cut_code_point
returns-in-Err-cut_code_point c =
    let some : 0 < length c.loop-key_left.key_left.now = omega (arith, c.sequence_length.ensures.some, c.sequence_length.ensures.within) in
    cut_decided c.loop-key_left.key_left.now c.sequence_length.result some (sym c.sequence_length.ensures.length) c.loop-key_left.text_left.now c.in-Err-cut_code_point.order (rw (c.scalar_value.ensures.value, c.split_at.ensures.front) at c.in-Err-cut_code_point.ensures.err)
    ∙ c.loop-key_left.invariant

pub loop-key_left-preserved : goal.loop-key_left-preserved
loop-key_left-preserved c =
    let some : 0 < length c.loop-key_left.key_left.now = omega (arith, c.sequence_length.ensures.some, c.sequence_length.ensures.within) in
    let same = cut_same c.loop-key_left.key_left.now c.sequence_length.result some (sym c.sequence_length.ensures.length) c.loop-key_left.text_left.now c.in-Ok-cut_code_point.rest.now (rw (c.scalar_value.ensures.value, c.split_at.ensures.front) at c.in-Ok-cut_code_point.ensures.ok) in
    rw c.split_at.ensures.back (same ∙ c.loop-key_left.invariant)

pub returns : goal.returns
returns c =
    let none : length c.loop-key_left.key_left.now ≡ 0 = grind (arith, nat_tests) in
    c.cmp.ensures ∙ key_ended c.loop-key_left.text_left.now ∙ (rw (nil_from_length c.loop-key_left.key_left.now none) at c.loop-key_left.invariant)
