use Rattle.std.proofs.Common.{true, false, sym, refl, arith}
use Rattle.std.specs.List.{list_all}
use Rattle.xs_cli.specs.Before.{is_call}
use Rattle.xs_cli.specs.Thin.{is_plain}
use Rattle.xs_cli.proofs.Reading.{last, no_string, one_more}
use Rattle.xs_cli.proofs.thin.read_next.Goals as goal

pub returns-then-spells : goal.returns-then-spells
returns-then-spells c = last (is_call c.args.before) true c.args.text.now c.in_default.ensures.cases (rw c.end.ensures at (sym c.if-spells.ensures))

pub returns-in_default : goal.returns-in_default
returns-in_default c = last (is_call c.args.before) false c.args.text.now c.in_default.ensures.cases (rw c.end.ensures at (sym c.if-spells.ensures))

pub returns-in_default-cut : goal.returns-in_default-cut
returns-in_default-cut c = no_string (is_call c.args.before) c.args.text.now c.in-Some.between.now c.in-Some.behind.now c.in-Some.ensures.cases c.in_default-cut.ensures.cases

pub returns-then-not-spells : goal.returns-then-not-spells
returns-then-not-spells c = one_more (is_call c.args.before) false (list_all is_plain c.in-Some-cut.argument.now) c.args.text.now c.in-Some.between.now c.in-Some.behind.now c.in-Some-cut.argument.now c.in-Some-cut.later.now c.in-Some.ensures.cases c.in-Some-cut.ensures.cases (rw c.next.ensures at (sym c.if-not-spells.ensures)) refl

pub returns-then-not-are_plain : goal.returns-then-not-are_plain
returns-then-not-are_plain c = one_more (is_call c.args.before) true false c.args.text.now c.in-Some.between.now c.in-Some.behind.now c.in-Some-cut.argument.now c.in-Some-cut.later.now c.in-Some.ensures.cases c.in-Some-cut.ensures.cases (rw c.next.ensures at (sym c.if-not-spells.ensures)) (sym c.if-not-are_plain.ensures)

pub returns : goal.returns
returns c = (one_more (is_call c.args.before) true true c.args.text.now c.in-Some.between.now c.in-Some.behind.now c.in-Some-cut.argument.now c.in-Some-cut.later.now c.in-Some.ensures.cases c.in-Some-cut.ensures.cases (rw c.next.ensures at (sym c.if-not-spells.ensures)) (sym c.if-not-are_plain.ensures), omega (arith, c.in-Some.ensures.shorter, c.in-Some-cut.ensures.shorter))
