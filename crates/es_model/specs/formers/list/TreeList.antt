-- How a list of trees holds what it is a list of: a type that leads back to itself may do so through it.
use Rattle.std.specs.Prelude.{◌≡◌, List, [], refl}
use mathlib.Core.Path.{sym}
use mathlib.Core.Former.{Former, this, list, via, children}
use base.Stored.{code_map}
use denote.RattleType.{RattleType}
use denote.HoleLaws.{Alike}
use denote.HolePlaces.{Recodes, struct_places, laid}
use denote.Hole.Carrier.{listed, list-listed}
use denote.Hole.Fix.{over}
use denote.Param.Weighed.{Weighed, w_list}
use denote.Model.Placed.{view_places}
use Rattle.std.specs.formers.vec.Vec as vec
use Rattle.std.specs.declared.alloc.Global.{Global}
use Rattle.std.specs.contracts.alloc.Global as global
use Rattle.std.specs.contracts.impls.GlobalAllocator.TheImpl.{ghosts}
use Rattle.es_model.specs.declared.list.TreeList.TheInside.{Inside}
use Rattle.es_model.specs.declared.list.TreeList.TheView.{view, invariant}
use Rattle.es_model.specs.contracts.list.TreeList as outer
use Rattle.es_model.specs.contracts.list.TreeList.TheInside as inner

abbrev pub the_former : Former {0} → Former {0}
the_former item = list item

abbrev pub the_weighed : {item : Former {0}} → Weighed item → Weighed (the_former item)
the_weighed weighed = w_list weighed

pub the_empty : List ⊥
the_empty = []

abbrev pub the_items : (X : Type 0) → List X → List X
the_items X xs = xs

pub the_items_listed : (X : Type 0) (xs : List X) → listed _ (children (the_former this) X xs) ≡ the_items X xs
the_items_listed X xs = list-listed X xs

-- the one field
abbrev field : Former {0}
field = via (vec.the_former this Global) Inside (λ X inside. inside.items) (λ X items. record { items = items }) (λ X inside. refl) (λ X items. refl)

module _ (A B : RattleType) (h : A.Denot → B.Denot) where
  pub the_places : Alike A B h → Alike (outer.the_row A) (outer.the_row B) ((the_former this).map A.Denot B.Denot h)
  the_places alike =
      let items = vec.the_places global.the_row ghosts A B h alike in
      let struct = struct_places (inner.the_type A) (inner.the_type B) (vec.mapped h, tt) _ (λ d. refl) refl (laid _ _ _ items, tt) in
      view_places field (list this) view (λ X Y k inside. refl) (λ X inside. refl) A.Denot B.Denot h (outer.the_row A).coded (outer.the_row B).coded
      (invariant A.Denot) (invariant B.Denot) (λ inside p q. refl) (λ inside p q. refl) (λ inside e. tt) (λ inside e. tt)
      (over (inner.the_row A)) (over (inner.the_row B)) struct

  pub the_codes_placed : Recodes A B h → Recodes (outer.the_row A) (outer.the_row B) ((the_former this).map A.Denot B.Denot h)
  the_codes_placed recodes xs = sym (code_map A.coded.code B.coded.code h (λ x. sym (recodes x)) xs)
