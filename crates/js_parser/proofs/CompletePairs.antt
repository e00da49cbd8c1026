-- The tokens of the names of imports and exports are read as them.
use Rattle.std.proofs.Common.{◌≡◌, ◌∙◌, sym, ap, ap₂, subst, ℕ, Bool, true, false, List, [], ◌∷◌, ◌++◌, codes, ◌⊎◌, inl, inr}
use Rattle.std.specs.Prelude.{◌||◌}
use Rattle.std.proofs.lemmas.List.{append_assoc, append-nil}
use Rattle.es_model.specs.declared.names.Identifier.{Identifier}
use Rattle.es_model.specs.declared.names.Pair.{Pair}
use Rattle.es_model.specs.Readings.{Tokens, Reading, the, name, the_name, word}
use Rattle.es_model.specs.Spelling.{outer_name, imported, exported_from, exported, pairs, maybe_comma}
use Rattle.js_parser.specs.declared.frame.PairRole.{PairRole}
use Rattle.js_parser.specs.declared.frame.PairRole.TheVariants as pr
use Rattle.js_parser.specs.ItemDue as nd
use Rattle.js_parser.specs.State.{Frames, item_part}
use Rattle.js_parser.specs.ItemSteps.{and_outer, pairs_end, default_at}
use Rattle.js_parser.specs.Machine.{run}
use Rattle.js_parser.proofs.CompleteBase.{takes, takes_name, here_at, place}

-- the end of a pair: a comma or a brace
abbrev PairEnd : Tokens → Type 0
PairEnd from = (to : Tokens) × (the "," from to ⊎ the "}" from to)

-- A name that is to be taken.

record Taken (stands : PairRole) (before : List Pair) (frames : Frames) (taken : Identifier) (from to : Tokens) : Type 0 where
  outer : Bool
  reading : run (item_part (nd.Pair stands before) frames) from ≡ run (item_part (nd.PairAs stands before taken outer) frames) to

name_taken : (stands : PairRole) (before : List Pair) (frames : Frames) (one : Identifier) (from to : Tokens) → name one from to →
    run (item_part (nd.Pair stands before) frames) from ≡ run (item_part (nd.PairAs stands before one false) frames) to
name_taken stands before frames one from to d = takes_name one from to d (item_part (nd.Pair stands before) frames)

-- the word `default` as a name
pub default_is : (one : Identifier) (at : ℕ) → at ≡ one.at → one.name ≡ codes "default" → default_at at ≡ one
default_is one at e h = ap₂ (λ at name. record { at = at; name = name }) e (sym h)

outer_taken : (stands : PairRole) (before : List Pair) (frames : Frames) (one : Identifier) (from to : Tokens) → outer_name one from to → Taken stands before frames one from to
unfolding word
outer_taken stands before frames one from to (inl d) = record { outer = false; reading = name_taken stands before frames one from to d }
outer_taken stands before frames one from to (inr d) =
    record {
      outer = true;
      reading = takes _ from to d.1.1 (item_part (nd.Pair stands before) frames)
          ∙ ap (λ taken. run (item_part (nd.PairAs stands before taken true) frames) to) (default_is one (place from) (here_at one.at from d.1.0) d.0);
    }

-- A pair that is one name, at its end.

both_end : (stands : PairRole) (before : List Pair) (frames : Frames) (taken : Identifier) (from : Tokens) → PairEnd from →
    run (item_part (nd.PairAs stands before taken false) frames) from ≡ run (item_part (nd.PairNext (and_outer stands false) (before ++ record { taken = taken; given = taken } ∷ [])) frames) from
unfolding word
both_end pr.Import before frames taken from (to, inl d) =
    takes _ from to d (item_part (nd.PairAs pr.Import before taken false) frames)
    ∙ sym (takes _ from to d (item_part (nd.PairNext pr.Import (before ++ record { taken = taken; given = taken } ∷ [])) frames))
both_end pr.Import before frames taken from (to, inr d) =
    takes _ from to d (item_part (nd.PairAs pr.Import before taken false) frames)
    ∙ sym (takes _ from to d (item_part (nd.PairNext pr.Import (before ++ record { taken = taken; given = taken } ∷ [])) frames))
both_end (pr.Export flag) before frames taken from (to, inl d) =
    takes _ from to d (item_part (nd.PairAs (pr.Export flag) before taken false) frames)
    ∙ sym (takes _ from to d (item_part (nd.PairNext (pr.Export (flag || false)) (before ++ record { taken = taken; given = taken } ∷ [])) frames))
both_end (pr.Export flag) before frames taken from (to, inr d) =
    takes _ from to d (item_part (nd.PairAs (pr.Export flag) before taken false) frames)
    ∙ sym (takes _ from to d (item_part (nd.PairNext (pr.Export (flag || false)) (before ++ record { taken = taken; given = taken } ∷ [])) frames))

outer_end : (flag outer : Bool) (before : List Pair) (frames : Frames) (taken : Identifier) (from : Tokens) → PairEnd from →
    run (item_part (nd.PairAs (pr.Export flag) before taken outer) frames) from ≡ run (item_part (nd.PairNext (pr.Export (flag || outer)) (before ++ record { taken = taken; given = taken } ∷ [])) frames) from
unfolding word
outer_end flag outer before frames taken from (to, inl d) =
    takes _ from to d (item_part (nd.PairAs (pr.Export flag) before taken outer) frames)
    ∙ sym (takes _ from to d (item_part (nd.PairNext (pr.Export (flag || outer)) (before ++ record { taken = taken; given = taken } ∷ [])) frames))
outer_end flag outer before frames taken from (to, inr d) =
    takes _ from to d (item_part (nd.PairAs (pr.Export flag) before taken outer) frames)
    ∙ sym (takes _ from to d (item_part (nd.PairNext (pr.Export (flag || outer)) (before ++ record { taken = taken; given = taken } ∷ [])) frames))

-- A pair with `as`.

takes_as : (stands : PairRole) (before : List Pair) (frames : Frames) (taken : Identifier) (outer : Bool) (from to : Tokens) → the_name "as" from to →
    run (item_part (nd.PairAs stands before taken outer) frames) from ≡ run (item_part (nd.PairGiven stands before taken outer) frames) to
takes_as stands before frames taken outer from to d = takes _ from to d (item_part (nd.PairAs stands before taken outer) frames)

name_given : (stands : PairRole) (before : List Pair) (frames : Frames) (taken : Identifier) (outer : Bool) (one : Identifier) (from to : Tokens) → name one from to →
    run (item_part (nd.PairGiven stands before taken outer) frames) from ≡ run (item_part (nd.PairNext (and_outer stands outer) (before ++ record { taken = taken; given = one } ∷ [])) frames) to
name_given stands before frames taken outer one from to d = takes_name one from to d (item_part (nd.PairGiven stands before taken outer) frames)

outer_given : (flag : Bool) (before : List Pair) (frames : Frames) (taken : Identifier) (outer : Bool) (one : Identifier) (from to : Tokens) → outer_name one from to →
    run (item_part (nd.PairGiven (pr.Export flag) before taken outer) frames) from ≡ run (item_part (nd.PairNext (pr.Export (flag || outer)) (before ++ record { taken = taken; given = one } ∷ [])) frames) to
unfolding word
outer_given flag before frames taken outer one from to (inl d) = name_given (pr.Export flag) before frames taken outer one from to d
outer_given flag before frames taken outer one from to (inr d) =
    takes _ from to d.1.1 (item_part (nd.PairGiven (pr.Export flag) before taken outer) frames)
    ∙ ap (λ given. run (item_part (nd.PairNext (pr.Export (flag || outer)) (before ++ record { taken = taken; given = given } ∷ [])) frames) to) (default_is one (place from) (here_at one.at from d.1.0) d.0)

-- One pair of each kind of list, where the list may stand as a role of a kind.

record PairRead (may_stand : PairRole → Type 0) (stands : PairRole) (before : List Pair) (frames : Frames) (one : Pair) (from to : Tokens) : Type 0 where
  role : PairRole
  stays : may_stand role
  reading : run (item_part (nd.Pair stands before) frames) from ≡ run (item_part (nd.PairNext role (before ++ one ∷ [])) frames) to

abbrev EachPair : (Pair → Reading) → (PairRole → Type 0) → Type 0
EachPair each may_stand =
    (stands : PairRole) → may_stand stands → (before : List Pair) (frames : Frames) (one : Pair) (from to : Tokens) → each one from to → PairEnd to → PairRead may_stand stands before frames one from to

same_pair : (one : Pair) → one.taken ≡ one.given → record { taken = one.given; given = one.given } ≡ one
same_pair one e = ap (λ taken. record { taken = taken; given = one.given }) (sym e)

abbrev pub Imports : PairRole → Type 0
Imports pr.Import = Unit {0}
Imports (pr.Export flag) = ⊥

reads_imported : EachPair imported Imports
reads_imported pr.Import ok before frames one from to (inl d) end =
    record {
      role = pr.Import;
      stays = tt;
      reading = name_taken pr.Import before frames one.given from to d.1 ∙ both_end pr.Import before frames one.given to end
          ∙ ap (λ pair. run (item_part (nd.PairNext pr.Import (before ++ pair ∷ [])) frames) to) (same_pair one d.0);
    }
reads_imported pr.Import ok before frames one from to (inr d) end =
    let taken = outer_taken pr.Import before frames one.taken from d.0 d.1 in
    record {
      role = pr.Import;
      stays = tt;
      reading = taken.reading ∙ takes_as pr.Import before frames one.taken taken.outer d.0 d.2.0 d.2.1 ∙ name_given pr.Import before frames one.taken taken.outer one.given d.2.0 to d.2.2;
    }
reads_imported (pr.Export flag) ok before frames one from to d end = absurd ok

-- names of this module alone
abbrev pub Exports : PairRole → Type 0
Exports (pr.Export false) = Unit {0}
Exports _ = ⊥

reads_exported : EachPair exported Exports
reads_exported (pr.Export false) ok before frames one from to (inl d) end =
    record {
      role = pr.Export false;
      stays = tt;
      reading = name_taken (pr.Export false) before frames one.given from to d.1 ∙ both_end (pr.Export false) before frames one.given to end
          ∙ ap (λ pair. run (item_part (nd.PairNext (pr.Export false) (before ++ pair ∷ [])) frames) to) (same_pair one d.0);
    }
reads_exported (pr.Export false) ok before frames one from to (inr d) end =
    record {
      role = pr.Export false;
      stays = tt;
      reading = name_taken (pr.Export false) before frames one.taken from d.0 d.1 ∙ takes_as (pr.Export false) before frames one.taken false d.0 d.2.0 d.2.1 ∙ outer_given false before frames one.taken false one.given d.2.0 to d.2.2;
    }
reads_exported (pr.Export true) ok before frames one from to d end = absurd ok
reads_exported pr.Import ok before frames one from to d end = absurd ok

-- names of another module
abbrev pub ExportsFrom : PairRole → Type 0
ExportsFrom (pr.Export flag) = Unit {0}
ExportsFrom pr.Import = ⊥

reads_exported_from : EachPair exported_from ExportsFrom
reads_exported_from (pr.Export flag) ok before frames one from to (inl d) end =
    let taken = outer_taken (pr.Export flag) before frames one.given from to d.1 in
    record {
      role = pr.Export (flag || taken.outer);
      stays = tt;
      reading = taken.reading ∙ outer_end flag taken.outer before frames one.given to end
          ∙ ap (λ pair. run (item_part (nd.PairNext (pr.Export (flag || taken.outer)) (before ++ pair ∷ [])) frames) to) (same_pair one d.0);
    }
reads_exported_from (pr.Export flag) ok before frames one from to (inr d) end =
    let taken = outer_taken (pr.Export flag) before frames one.taken from d.0 d.1 in
    record {
      role = pr.Export (flag || taken.outer);
      stays = tt;
      reading = taken.reading ∙ takes_as (pr.Export flag) before frames one.taken taken.outer d.0 d.2.0 d.2.1 ∙ outer_given flag before frames one.taken taken.outer one.given d.2.0 to d.2.2;
    }
reads_exported_from pr.Import ok before frames one from to d end = absurd ok

-- Lists of pairs, up to the brace behind them.

pub record PairsRead (may_stand : PairRole → Type 0) (stands : PairRole) (before list : List Pair) (frames : Frames) (from to : Tokens) : Type 0 where
  pub role : PairRole
  pub stays : may_stand role
  pub reading : run (item_part (nd.Pair stands before) frames) from ≡ run (pairs_end frames role (before ++ list)) to

reads_pairs : (each : Pair → Reading) (may_stand : PairRole → Type 0) → EachPair each may_stand → (list before : List Pair) (stands : PairRole) → may_stand stands → (frames : Frames) (from mid to : Tokens) →
    pairs each list from mid → the "}" mid to → PairsRead may_stand stands before list frames from to
unfolding word
reads_pairs each may_stand reads [] before stands ok frames from mid to d c =
    record {
      role = stands;
      stays = ok;
      reading = ap (run (item_part (nd.Pair stands before) frames)) d ∙ takes _ mid to c (item_part (nd.Pair stands before) frames)
          ∙ ap (λ list. run (pairs_end frames stands list) to) (sym (append-nil before));
    }
reads_pairs each may_stand reads (one ∷ []) before stands ok frames from mid to d c = by d.2
  where
    by : maybe_comma d.0 mid → PairsRead may_stand stands before (one ∷ []) frames from to
    by (inl same) =
        let first = reads stands ok before frames one from d.0 d.1 (to, inr (subst (λ tokens. the "}" tokens to) (sym same) c)) in
        record {
          role = first.role;
          stays = first.stays;
          reading = first.reading ∙ ap (run (item_part (nd.PairNext first.role (before ++ one ∷ [])) frames)) same ∙ takes _ mid to c (item_part (nd.PairNext first.role (before ++ one ∷ [])) frames);
        }
    by (inr comma) =
        let first = reads stands ok before frames one from d.0 d.1 (mid, inl comma) in
        record {
          role = first.role;
          stays = first.stays;
          reading = first.reading ∙ takes _ d.0 mid comma (item_part (nd.PairNext first.role (before ++ one ∷ [])) frames) ∙ takes _ mid to c (item_part (nd.Pair first.role (before ++ one ∷ [])) frames);
        }
reads_pairs each may_stand reads (one ∷ other ∷ rest) before stands ok frames from mid to d c =
    let first = reads stands ok before frames one from d.0 d.1 (d.2.0, inl d.2.1) in
    let last = reads_pairs each may_stand reads (other ∷ rest) (before ++ one ∷ []) first.role first.stays frames d.2.0 mid to d.2.2 c in
    record {
      role = last.role;
      stays = last.stays;
      reading = first.reading ∙ takes _ d.0 d.2.0 d.2.1 (item_part (nd.PairNext first.role (before ++ one ∷ [])) frames) ∙ last.reading
          ∙ ap (λ list. run (pairs_end frames last.role list) to) (append_assoc before (one ∷ []) (other ∷ rest));
    }

pub reads_imports : (list before : List Pair) (frames : Frames) (from mid to : Tokens) → pairs imported list from mid → the "}" mid to → PairsRead Imports pr.Import before list frames from to
reads_imports list before frames from mid to d c = reads_pairs imported Imports reads_imported list before pr.Import tt frames from mid to d c

pub reads_exports : (list : List Pair) (frames : Frames) (from mid to : Tokens) → pairs exported list from mid → the "}" mid to → PairsRead Exports (pr.Export false) [] list frames from to
reads_exports list frames from mid to d c = reads_pairs exported Exports reads_exported list [] (pr.Export false) tt frames from mid to d c

pub reads_exports_from : (list : List Pair) (frames : Frames) (from mid to : Tokens) → pairs exported_from list from mid → the "}" mid to → PairsRead ExportsFrom (pr.Export false) [] list frames from to
reads_exports_from list frames from mid to d c = reads_pairs exported_from ExportsFrom reads_exported_from list [] (pr.Export false) tt frames from mid to d c
