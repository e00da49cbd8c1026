use Rattle.std.proofs.Common.{◌∙◌, ◌∷◌, ◌<◌, [], length, sym, ap, arith}
use Rattle.std.proofs.lemmas.List.{length-set}
use Rattle.es_model.specs.Tokens.{place_from, signs}
use Rattle.js_lexer.proofs.Longest.{not_ascii}
use Rattle.js_lexer.proofs.Signs.{not_one, is_longest, grows, units_grow, skip_more, at_end, at_four, at_other}
use Rattle.js_lexer.proofs.words.longest_sign.Goals as goal

pub returns-in_err-units : goal.returns-in_err-units
returns-in_err-units c = rw c.from_residual.ensures (not_one c.args.first c.args.left.now (not_ascii [] c.args.first c.in_err-units.ensures))

pub returns-in_err-longest : goal.returns-in_err-longest
returns-in_err-longest c = rw c.from_residual-in_err-longest.ensures (not_one c.args.first c.args.left.now (ap (λ u. place_from 0 signs (u ∷ [])) (sym c.in_ok-units.ensures) ∙ sym c.in_err-longest.ensures))

pub loop-length-preserved : goal.loop-length-preserved
loop-length-preserved c =
    let inv = c.loop-length.invariant in
    let more = grows c.args.first c.loop-length.length c.in-Some.next c.args.left.now c.loop-length.left inv.some inv.rest c.in-Some.ensures in
    let room : c.loop-length.length < length c.loop-length.units = omega arith in
    let front = units_grow c.args.first c.loop-length.length c.in-Some.next c.in-Some-ascii.unit c.loop-length.units c.args.left.now room inv.front more c.in-Some-ascii.ensures in
    record {
      some = omega arith;
      short = omega arith;
      room = length-set c.loop-length.units c.loop-length.length c.in-Some-ascii.unit ∙ inv.room;
      within = more.within;
      front = front;
      sign = ap (place_from 0 signs) (sym front) ∙ sym c.in-Some-sign.ensures;
      rest = c.next.ensures.left ∙ skip_more c.loop-length.length c.args.left.now c.loop-length.left inv.some inv.rest;
    }

pub returns-after-loop-length : goal.returns-after-loop-length
returns-after-loop-length c =
    let inv = c.loop-length.invariant in
    at_four c.args.first c.loop-length.length c.loop-length.longest c.args.left.now c.loop-length.left inv.some inv.within inv.sign inv.rest c.loop-length-test.false

pub returns-in_default : goal.returns-in_default
returns-in_default c =
    let inv = c.loop-length.invariant in
    at_end c.args.first c.loop-length.length c.loop-length.longest c.args.left.now c.loop-length.left inv.some inv.within inv.sign inv.rest c.in_default.ensures

pub returns-in_default-ascii : goal.returns-in_default-ascii
returns-in_default-ascii c =
    let inv = c.loop-length.invariant in
    at_other c.args.first c.loop-length.length c.loop-length.longest c.in-Some.next c.args.left.now c.loop-length.left inv.some inv.within inv.sign inv.rest c.in-Some.ensures c.in_default-ascii.ensures

pub returns-in_default-sign : goal.returns-in_default-sign
returns-in_default-sign c =
    let inv = c.loop-length.invariant in
    let more = grows c.args.first c.loop-length.length c.in-Some.next c.args.left.now c.loop-length.left inv.some inv.rest c.in-Some.ensures in
    let room : c.loop-length.length < length c.loop-length.units = omega arith in
    let front = units_grow c.args.first c.loop-length.length c.in-Some.next c.in-Some-ascii.unit c.loop-length.units c.args.left.now room inv.front more c.in-Some-ascii.ensures in
    is_longest c.args.first c.loop-length.length c.loop-length.longest c.args.left.now c.loop-length.left inv.some inv.within inv.sign (λ _. ap (place_from 0 signs) (sym front) ∙ sym c.in_default-sign.ensures) inv.rest
