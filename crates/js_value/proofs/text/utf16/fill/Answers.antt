use Rattle.std.proofs.Common.{◌≡◌, ◌<◌, ◌-◌, length, take, drop, ◌∙◌, ap, arith}
use Rattle.std.proofs.lemmas.List.{nil_from_length}
use Rattle.std.proofs.lemmas.Bool.Decides.{nat_tests}
use Rattle.js_value.specs.Text.{characters, character_utf8, code_point, encoded, front}
use Rattle.js_value.proofs.Pieces.{head, front-stops}
use Rattle.js_value.proofs.Filling.{begun, next_of, written_all}
use Rattle.js_value.proofs.text.utf16.fill.Goals as goal

pub loop-rest-init : goal.loop-rest-init
loop-rest-init c = begun _ _ c.told-into

pub loop-rest-preserved : goal.loop-rest-preserved
loop-rest-preserved c =
    let some : 0 < length c.loop-rest.rest.now = omega (arith, c.character_length.ensures.some, c.character_length.ensures.within) in
    let character : c.split_at.result.0.now ≡ head c.loop-rest.rest.now =
    c.split_at.ensures.front ∙ ap (λ n. take n c.loop-rest.rest.now) c.character_length.ensures.length in
    next_of _ _ _ _ _ _ _ _ _ _ c.loop-rest.invariant some character
    (c.split_at.ensures.back ∙ ap (λ n. drop n c.loop-rest.rest.now) c.character_length.ensures.length)
    (c.as_slice-bytes.ensures.bytes ∙ c.of-encoded.ensures ∙ ap encoded (c.code_point.ensures.value ∙ ap code_point character))
    c.if-bytes-written.false
    c.append.ensures
    c.append.array_long

pub returns-after-loop-rest : goal.returns-after-loop-rest
returns-after-loop-rest c =
    let none : length c.loop-rest.rest.now ≡ 0 = grind (arith, nat_tests) in
    let all = written_all _ _ _ _ _ _ c.loop-rest.invariant (ap (λ left. front (64 - c.loop-rest.written) (characters left)) (nil_from_length c.loop-rest.rest.now none)) in
    record { written = all.0; taken = all.1; bytes = all.2 }

pub returns-then-bytes-written : goal.returns-then-bytes-written
returns-then-bytes-written c =
    let some : 0 < length c.loop-rest.rest.now = omega (arith, c.character_length.ensures.some, c.character_length.ensures.within) in
    let character : c.split_at.result.0.now ≡ head c.loop-rest.rest.now =
    c.split_at.ensures.front ∙ ap (λ n. take n c.loop-rest.rest.now) c.character_length.ensures.length in
    let bytes : c.as_slice-bytes.result.now ≡ character_utf8 (head c.loop-rest.rest.now) =
    c.as_slice-bytes.ensures.bytes ∙ c.of-encoded.ensures ∙ ap encoded (c.code_point.ensures.value ∙ ap code_point character) in
    let full : 64 - c.loop-rest.written < length (character_utf8 (head c.loop-rest.rest.now)) = omega (arith, c.if-bytes-written.true, ap length bytes) in
    let all = written_all _ _ _ _ _ _ c.loop-rest.invariant (front-stops (64 - c.loop-rest.written) c.loop-rest.rest.now some full) in
    record { written = all.0; taken = all.1; bytes = all.2 }
