-- A deed on what the heap holds leaves the rest of the world: what it comes to over the heap, it comes to over the world.
use Rattle.es_ops.specs.State.{Heap, World}
use Rattle.es_ops.specs.Ledger.{Event, Happens, Stops}
use Rattle.es_ops.specs.Events.{with_rest}
use Rattle.es_ops.specs.Laws.{IfHappens}

pub lifted : {A : Type 0} (P : A → World → Type 0) (w : World) (e : Event Heap A) → IfHappens e (λ a h. P a (record w { heap = h })) → IfHappens (with_rest w e) P
lifted P w (Happens a h) p = p
lifted P w (Stops full) p = tt
