-- Each refusal contradicts a clause of valid code, and what isn't refused is passed.
use Rattle.std.proofs.Common.{◌≡◌, ◌≤◌, ◌+◌, ℕ, length, Some, None, refl, sym, subst, arith, length-set, slice_set, IsTrue, true, false}
use Rattle.byte_code.specs.ValidCode.{At, IsInBounds, end_of, goes_on}
use Rattle.byte_code.specs.Checking.{known, RefusesAny, Pass}
use Rattle.byte_code.specs.Frames.{bounds_of}
use Rattle.byte_code.proofs.Starts.{ends_inside}
use Rattle.byte_code.proofs.Entering.{Entering, entry_pending}
use Rattle.byte_code.proofs.Refusing.{no_instruction, no_entry, no_room, no_target, no_inner}
use Rattle.byte_code.proofs.Keeping.{Writes, writes}
use Rattle.byte_code.proofs.Kept.{Finds, kept, jumped_inside}
use Rattle.byte_code.proofs.validity.step.Goals as goal

pub returns-in_err-op-clause-none : goal.returns-in_err-op-clause-none
returns-in_err-op-clause-none c = rw c.from_residual.ensures (no_instruction _ _ _ _ _ c.requires.pass c.requires.within c.in_err-op.ensures.none)

pub returns-in_err-height-clause-none : goal.returns-in_err-height-clause-none
returns-in_err-height-clause-none c = rw c.from_residual-in_err-height.ensures
    (no_entry _ _ _ _ _ c.is_handler-handler.result c.requires.pass c.is_handler-handler.ensures.0 (sym c.in_err-height.ensures))

pub returns-in_err-after-clause-none : goal.returns-in_err-after-clause-none
returns-in_err-after-clause-none c =
    let here : At c.args.code.now c.args.front.at c.in_ok-op.op = record { start = c.requires.pass.start; instruction = c.in_ok-op.ensures.found.0; begins = c.in_ok-op.ensures.found.1 } in
    let e : Entering c.args.code.now (bounds_of c.args.frame) c.args.heights.now c.args.front.at c.args.front.before c.is_handler-handler.result c.in_ok-op.op c.in_ok-height.height =
    record { pass = c.requires.pass; here = here; yes = c.is_handler-handler.ensures.0; no = c.is_handler-handler.ensures.1; entered = sym c.in_ok-height.ensures } in
    rw c.from_residual-in_err-after.ensures (no_room _ _ _ _ _ _ _ _ e c.in_err-after.ensures.none)

pub returns-then-not-mark_jump-clause-none : goal.returns-then-not-mark_jump-clause-none
returns-then-not-mark_jump-clause-none c =
    let here : At c.args.code.now c.args.front.at c.in_ok-op.op = record { start = c.requires.pass.start; instruction = c.in_ok-op.ensures.found.0; begins = c.in_ok-op.ensures.found.1 } in
    let e : Entering c.args.code.now (bounds_of c.args.frame) c.args.heights.now c.args.front.at c.args.front.before c.is_handler-handler.result c.in_ok-op.op c.in_ok-height.height =
    record { pass = c.requires.pass; here = here; yes = c.is_handler-handler.ensures.0; no = c.is_handler-handler.ensures.1; entered = sym c.in_ok-height.ensures } in
    let refuses : ℕ → Type 0 = λ g. RefusesAny c.args.code.now (slice_set c.args.heights.now c.args.front.at (Some c.in_ok-height.height)) c.args.front.at c.jump_target.result g in
    no_target _ _ _ _ _ _ _ _ e c.jump_target.result c.jump_target.ensures (subst refuses c.in_ok-after.ensures.some.3 c.if-not-mark_jump.ensures.refused)

pub are_free-requires : goal.are_free-requires
are_free-requires c =
    let inside : c.args.front.at + c.in_ok-op.count ≤ length c.args.code.now = omega (arith, ends_inside c.args.code.now c.args.front.at c.in_ok-op.op c.in_ok-op.ensures.found.1, c.in_ok-op.ensures.found.2) in
    omega (arith, c.requires.pass.size, c.mark_jump.auto.heights, length-set c.args.heights.now c.args.front.at (Some c.in_ok-height.height))

pub returns-then-not-are_free-clause-none : goal.returns-then-not-are_free-clause-none
returns-then-not-are_free-clause-none c v =
    let here : At c.args.code.now c.args.front.at c.in_ok-op.op = record { start = c.requires.pass.start; instruction = c.in_ok-op.ensures.found.0; begins = c.in_ok-op.ensures.found.1 } in
    let e : Entering c.args.code.now (bounds_of c.args.frame) c.args.heights.now c.args.front.at c.args.front.before c.is_handler-handler.result c.in_ok-op.op c.in_ok-height.height =
    record { pass = c.requires.pass; here = here; yes = c.is_handler-handler.ensures.0; no = c.is_handler-handler.ensures.1; entered = sym c.in_ok-height.ensures } in
    let w : Writes c.args.code.now c.args.heights.now c.mark_jump.new.heights c.args.front.at c.in_ok-op.op c.in_ok-height.height c.in_ok-after.after =
    writes c.args.code.now c.args.heights.now c.mark_jump.new.heights c.args.front.at c.in_ok-op.op c.in_ok-height.height c.in_ok-after.after c.jump_target.result c.requires.within c.requires.pass.size
    (λ g q. entry_pending c.is_handler-handler.result c.args.front.before (known c.args.heights.now c.args.front.at) c.in_ok-height.height g (sym c.in_ok-height.ensures) q) c.jump_target.ensures c.if-not-mark_jump.ensures.marked in
    let free : IsTrue c.are_free.result = c.are_free.ensures.1 (λ q low high.
    jumped_inside c.args.code.now (bounds_of c.args.frame) c.args.heights.now c.mark_jump.new.heights c.args.front.at c.args.front.before c.is_handler-handler.result c.in_ok-op.op c.in_ok-height.height c.in_ok-after.after e w q (λ j. no_inner c.args.code.now c.args.front.at q c.in_ok-op.op (bounds_of c.args.frame) here (omega arith) (omega (arith, c.in_ok-op.ensures.found.2)) j v) low) in
    cc

pub returns-then-goes_on-clause-some : goal.returns-then-goes_on-clause-some
returns-then-goes_on-clause-some c =
    let here : At c.args.code.now c.args.front.at c.in_ok-op.op = record { start = c.requires.pass.start; instruction = c.in_ok-op.ensures.found.0; begins = c.in_ok-op.ensures.found.1 } in
    let e : Entering c.args.code.now (bounds_of c.args.frame) c.args.heights.now c.args.front.at c.args.front.before c.is_handler-handler.result c.in_ok-op.op c.in_ok-height.height =
    record { pass = c.requires.pass; here = here; yes = c.is_handler-handler.ensures.0; no = c.is_handler-handler.ensures.1; entered = sym c.in_ok-height.ensures } in
    let w : Writes c.args.code.now c.args.heights.now c.mark_jump.new.heights c.args.front.at c.in_ok-op.op c.in_ok-height.height c.in_ok-after.after =
    writes c.args.code.now c.args.heights.now c.mark_jump.new.heights c.args.front.at c.in_ok-op.op c.in_ok-height.height c.in_ok-after.after c.jump_target.result c.requires.within c.requires.pass.size
    (λ g q. entry_pending c.is_handler-handler.result c.args.front.before (known c.args.heights.now c.args.front.at) c.in_ok-height.height g (sym c.in_ok-height.ensures) q) c.jump_target.ensures c.if-not-mark_jump.ensures.marked in
    let f : Finds c.args.code.now (bounds_of c.args.frame) c.mark_jump.new.heights c.args.front.at c.in_ok-op.op c.in_ok-height.height c.in_ok-after.after = record {
      operand = subst (IsInBounds (bounds_of c.args.frame)) c.operand.ensures (c.if-not-is_in_bounds.ensures.0 refl);
      pops = c.in_ok-after.ensures.some.0;
      room = c.in_ok-after.ensures.some.1;
      after_room = c.in_ok-after.ensures.some.2;
      after_is = c.in_ok-after.ensures.some.3;
      free = λ q low high. c.if-not-are_free.ensures.0 refl q low (omega (arith, c.in_ok-op.ensures.found.2));
    } in
    let inside : end_of c.args.front.at c.in_ok-op.op ≤ length c.args.code.now = ends_inside c.args.code.now c.args.front.at c.in_ok-op.op c.in_ok-op.ensures.found.1 in
    let k : Pass c.args.code.now (bounds_of c.args.frame) c.mark_jump.new.heights (end_of c.args.front.at c.in_ok-op.op) (Some c.in_ok-after.after) =
    kept c.args.code.now (bounds_of c.args.frame) c.args.heights.now c.mark_jump.new.heights c.args.front.at c.args.front.before c.is_handler-handler.result c.in_ok-op.op c.in_ok-height.height c.in_ok-after.after (Some c.in_ok-after.after) e w f (λ g. refl) (λ g. let t : true ≡ goes_on c.in_ok-op.op = c.if-goes_on.ensures in cc) in (
      subst (λ n. Pass c.args.code.now (bounds_of c.args.frame) c.mark_jump.new.heights (c.args.front.at + n) (Some c.in_ok-after.after)) (sym c.in_ok-op.ensures.found.2) k,
      omega (arith, c.in_ok-op.ensures.found.2),
      omega (arith, c.in_ok-op.ensures.found.2),
    )

pub returns-else-goes_on-clause-some : goal.returns-else-goes_on-clause-some
returns-else-goes_on-clause-some c =
    let here : At c.args.code.now c.args.front.at c.in_ok-op.op = record { start = c.requires.pass.start; instruction = c.in_ok-op.ensures.found.0; begins = c.in_ok-op.ensures.found.1 } in
    let e : Entering c.args.code.now (bounds_of c.args.frame) c.args.heights.now c.args.front.at c.args.front.before c.is_handler-handler.result c.in_ok-op.op c.in_ok-height.height =
    record { pass = c.requires.pass; here = here; yes = c.is_handler-handler.ensures.0; no = c.is_handler-handler.ensures.1; entered = sym c.in_ok-height.ensures } in
    let w : Writes c.args.code.now c.args.heights.now c.mark_jump.new.heights c.args.front.at c.in_ok-op.op c.in_ok-height.height c.in_ok-after.after =
    writes c.args.code.now c.args.heights.now c.mark_jump.new.heights c.args.front.at c.in_ok-op.op c.in_ok-height.height c.in_ok-after.after c.jump_target.result c.requires.within c.requires.pass.size
    (λ g q. entry_pending c.is_handler-handler.result c.args.front.before (known c.args.heights.now c.args.front.at) c.in_ok-height.height g (sym c.in_ok-height.ensures) q) c.jump_target.ensures c.if-not-mark_jump.ensures.marked in
    let f : Finds c.args.code.now (bounds_of c.args.frame) c.mark_jump.new.heights c.args.front.at c.in_ok-op.op c.in_ok-height.height c.in_ok-after.after = record {
      operand = subst (IsInBounds (bounds_of c.args.frame)) c.operand.ensures (c.if-not-is_in_bounds.ensures.0 refl);
      pops = c.in_ok-after.ensures.some.0;
      room = c.in_ok-after.ensures.some.1;
      after_room = c.in_ok-after.ensures.some.2;
      after_is = c.in_ok-after.ensures.some.3;
      free = λ q low high. c.if-not-are_free.ensures.0 refl q low (omega (arith, c.in_ok-op.ensures.found.2));
    } in
    let inside : end_of c.args.front.at c.in_ok-op.op ≤ length c.args.code.now = ends_inside c.args.code.now c.args.front.at c.in_ok-op.op c.in_ok-op.ensures.found.1 in
    let k : Pass c.args.code.now (bounds_of c.args.frame) c.mark_jump.new.heights (end_of c.args.front.at c.in_ok-op.op) None =
    kept c.args.code.now (bounds_of c.args.frame) c.args.heights.now c.mark_jump.new.heights c.args.front.at c.args.front.before c.is_handler-handler.result c.in_ok-op.op c.in_ok-height.height c.in_ok-after.after None e w f (λ g. let t : false ≡ goes_on c.in_ok-op.op = c.if-goes_on.ensures in cc) (λ g. refl) in (
      subst (λ n. Pass c.args.code.now (bounds_of c.args.frame) c.mark_jump.new.heights (c.args.front.at + n) None) (sym c.in_ok-op.ensures.found.2) k,
      omega (arith, c.in_ok-op.ensures.found.2),
      omega (arith, c.in_ok-op.ensures.found.2),
    )
