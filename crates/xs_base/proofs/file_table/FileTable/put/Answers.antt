use Rattle.std.proofs.Common.{◌≡◌, ◌++◌, IsTrue, ap, sym, subst, arith, rules}
use Rattle.xs_base.specs.Held.{Contents}
use Rattle.xs_base.specs.Table.{Table, fits}
use Rattle.xs_base.proofs.Packing.{fits_facts, room_old, room_new, is_exchanged, contents-exchanged, packed-exchanged, is_added, contents-added, packed-added, bounded}
use Rattle.xs_base.proofs.file_table.FileTable.put.Goals as goal

pub exchange-requires-clause-room : goal.exchange-requires-clause-room
exchange-requires-clause-room c =
    let place = rw (c.deref.ensures.value, c.deref-2.ensures.value) at c.in-Some.ensures in
    let fit = fits_facts _ _ _ _ _ _ (subst (λ table. IsTrue (fits table c.args.name.now c.args.content.now)) (sym c.self.view_is) c.requires) in
    let room = room_old _ _ _ _ _ _ c.self.invariant.packed place fit.0 in omega arith

pub push_reserved-requires : goal.push_reserved-requires
push_reserved-requires c =
    let none = rw (c.deref.ensures.value, c.deref-2.ensures.value) at c.in-None.ensures in
    let fit = fits_facts _ _ _ _ _ _ (subst (λ table. IsTrue (fits table c.args.name.now c.args.content.now)) (sym c.self.view_is) c.requires) in
    let room = room_new _ _ _ _ _ _ c.self.invariant.packed none fit.0 fit.1 in omega arith

pub invariant_of-self : goal.invariant_of-self
invariant_of-self c =
    let place = rw (c.deref.ensures.value, c.deref-2.ensures.value) at c.in-Some.ensures in
    let fit = fits_facts _ _ _ _ _ _ (subst (λ table. IsTrue (fits table c.args.name.now c.args.content.now)) (sym c.self.view_is) c.requires) in
    let exchange = is_exchanged _ _ _ _ _ _ _ place c.index_mut-extent.ensures.value c.exchange.ensures.items in
    let packed = packed-exchanged _ _ _ _ _ _ _ c.self.invariant.packed place exchange in
    let within = bounded _ _ _ _ _ packed (contents-exchanged _ _ _ _ _ _ _ place exchange) fit.0 fit.1 in
    record { packed = packed; bytes_fit = omega (arith, within.bytes_fit); names_fit = omega arith; bytes_reserved = omega arith; names_reserved = omega arith }

pub returns-in-Some : goal.returns-in-Some
returns-in-Some c =
    let place = rw (c.deref.ensures.value, c.deref-2.ensures.value) at c.in-Some.ensures in
    let exchange = is_exchanged _ _ _ _ _ _ _ place c.index_mut-extent.ensures.value c.exchange.ensures.items in
    rw (← c.self.view_is) (ap (λ (contents : Contents). let table : Table = record { contents = contents; room = c.self.inside.room; names = c.self.inside.names } in table) (contents-exchanged _ _ _ _ _ _ _ place exchange))

pub invariant_of-self-in-None : goal.invariant_of-self-in-None
invariant_of-self-in-None c =
    let none = rw (c.deref.ensures.value, c.deref-2.ensures.value) at c.in-None.ensures in
    let fit = fits_facts _ _ _ _ _ _ (subst (λ table. IsTrue (fits table c.args.name.now c.args.content.now)) (sym c.self.view_is) c.requires) in
    let room = room_new _ _ _ _ _ _ c.self.invariant.packed none fit.0 fit.1 in
    let bytes : c.extend_from_slice-in-None.new.self.items ≡ (c.self.inside.bytes.items ++ c.args.name.now) ++ c.args.content.now = search rules in
    let added = is_added _ _ _ _ _ _ c.push_reserved.ensures.items bytes in
    let packed = packed-added _ _ _ _ _ _ c.self.invariant.packed none added in
    let within = bounded _ _ _ _ _ packed (contents-added _ _ _ _ _ _ c.self.invariant.packed none added) fit.0 fit.1 in
    record { packed = packed; bytes_fit = omega (arith, within.bytes_fit); names_fit = omega (arith, within.names_fit); bytes_reserved = omega arith; names_reserved = omega arith }

pub returns-in-None : goal.returns-in-None
returns-in-None c =
    let none = rw (c.deref.ensures.value, c.deref-2.ensures.value) at c.in-None.ensures in
    let fit = fits_facts _ _ _ _ _ _ (subst (λ table. IsTrue (fits table c.args.name.now c.args.content.now)) (sym c.self.view_is) c.requires) in
    let room = room_new _ _ _ _ _ _ c.self.invariant.packed none fit.0 fit.1 in
    let bytes : c.extend_from_slice-in-None.new.self.items ≡ (c.self.inside.bytes.items ++ c.args.name.now) ++ c.args.content.now = search rules in
    rw (← c.self.view_is) (ap (λ (contents : Contents). let table : Table = record { contents = contents; room = c.self.inside.room; names = c.self.inside.names } in table) (contents-added _ _ _ _ _ _ c.self.invariant.packed none (is_added _ _ _ _ _ _ c.push_reserved.ensures.items bytes)))
