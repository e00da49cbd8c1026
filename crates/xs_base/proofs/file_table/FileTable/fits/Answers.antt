use Rattle.std.proofs.Common.{arith}
use Rattle.xs_base.proofs.Packing.{fits_old, fits_new, fits_no_more, same_test}
use Rattle.xs_base.proofs.file_table.FileTable.fits.Goals as goal

pub returns-in-Some : goal.returns-in-Some
returns-in-Some c =
    let place = rw (c.deref.ensures.value, c.deref-2.ensures.value) at c.in-Some.ensures in
    rw (← c.self.view_is) (same_test _ _ _ _ _ (fits_old _ _ _ _ _ _ _ _ c.self.invariant.packed place (omega arith) (omega arith) (omega arith)))

pub returns-then-len-self : goal.returns-then-len-self
returns-then-len-self c =
    let none = rw (c.deref.ensures.value, c.deref-2.ensures.value) at c.in-None.ensures in
    rw (← c.self.view_is) (same_test _ _ _ _ _ (fits_new _ _ _ _ _ _ _ c.self.invariant.packed none (omega arith) (omega arith) (omega arith)))

pub returns-else-len-self : goal.returns-else-len-self
returns-else-len-self c =
    let none = rw (c.deref.ensures.value, c.deref-2.ensures.value) at c.in-None.ensures in
    rw (← c.self.view_is) (same_test _ _ _ _ _ (fits_no_more _ _ _ _ _ _ _ c.self.invariant.packed none (omega arith) (omega arith)))
