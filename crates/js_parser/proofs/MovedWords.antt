-- The words, names and pairs of the grammar, at other places.
use Rattle.std.proofs.Common.{◌≡◌, ℕ, Bool, true, false, List, [], ◌∷◌, Option, Some, None, refl, ap, codes, inl, inr}
use Prim.Native.String.{String}
use Rattle.es_model.specs.declared.kinds.MemberKind.{MemberKind}
use Rattle.es_model.specs.declared.kinds.MemberKind.TheVariants as m
use Rattle.es_model.specs.declared.names.Identifier.{Identifier}
use Rattle.es_model.specs.declared.names.Pair.{Pair}
use Rattle.es_model.specs.Readings.{Reading, ◌▸◌, ◌∣◌, given, the, name, the_name, maybe_name, here}
use Rattle.es_model.specs.Spelling as s
use Rattle.es_model.specs.Spelling.{Semicolons, no_more, one_more}
use Rattle.js_parser.proofs.Moved.{Moves, Stays, seq, into, under, either, impossible, nothing_stays, the_stays, the_name_stays, named, name_moves, here_moves}

pub maybe_comma_stays : Stays s.maybe_comma
maybe_comma_stays = either nothing_stays (the_stays ",")

pub step_stays : (up : Bool) → Stays (s.step up)
step_stays true = the_stays "++"
step_stays false = the_stays "--"

pub assigning_stays : (sign : Option String) → Stays (s.assigning sign)
assigning_stays None = impossible _
assigning_stays (Some sign) = the_stays sign

pub declaring_word_stays : (constant : Bool) → Stays (s.declaring_word constant)
declaring_word_stays true = the_stays "const"
declaring_word_stays false = the_stays "let"

pub static_stays : (fixed : Bool) → Stays (s.static_before fixed)
static_stays true = the_stays "static"
static_stays false = nothing_stays

pub accessor_stays : (kind : MemberKind) → Stays (s.accessor_word kind)
accessor_stays m.Value = nothing_stays
accessor_stays m.Short = nothing_stays
accessor_stays m.Method = nothing_stays
accessor_stays m.Getter = the_name_stays "get"
accessor_stays m.Setter = the_name_stays "set"

pub semicolons_stay : Stays Semicolons
semicolons_stay from to moved alike no_more = (tt, moved, alike, no_more)
semicolons_stay from to moved alike (one_more {mid = mid} h more) =
    let x = the_stays ";" from mid moved alike h in
    let y = semicolons_stay mid to x.1 x.2 more in
    (tt, y.1, y.2, one_more x.3 y.3)

-- Names that may be left out.

abbrev pub OwnPlace : Option Identifier → Type 0
OwnPlace None = Unit {0}
OwnPlace (Some one) = ℕ

abbrev pub own_at : (own : Option Identifier) → OwnPlace own → Option Identifier
own_at None place = None
own_at (Some one) place = Some (named one.name place)

pub maybe_name_moves : (own : Option Identifier) → Moves (λ place. maybe_name (own_at own place)) (maybe_name own)
maybe_name_moves None = nothing_stays
maybe_name_moves (Some one) = name_moves one

pub class_name_moves : (written : Bool) (own : Option Identifier) → Moves (λ place. s.class_name written (own_at own place)) (s.class_name written own)
class_name_moves true None = impossible _
class_name_moves true (Some one) = maybe_name_moves (Some one)
class_name_moves false None = maybe_name_moves None
class_name_moves false (Some one) = maybe_name_moves (Some one)

pub catch_name_moves : (own : Option Identifier) → Moves (λ place. s.catch_name (own_at own place)) (s.catch_name own)
catch_name_moves None = nothing_stays
catch_name_moves (Some one) = into _ (λ p. p.1.0) (λ p from to h. h) (seq (the_stays "(") (seq (name_moves one) (the_stays ")")))

-- Names of a list.

abbrev pub NamePlaces : List Identifier → Type 0
NamePlaces [] = Unit {0}
NamePlaces (one ∷ rest) = ℕ × NamePlaces rest

abbrev pub names_at : (names : List Identifier) → NamePlaces names → List Identifier
names_at [] places = []
names_at (one ∷ rest) places = named one.name places.0 ∷ names_at rest places.1

pub names_move : (names : List Identifier) → Moves (λ places. s.names (names_at names places)) (s.names names)
names_move [] = nothing_stays
names_move (one ∷ []) = seq (name_moves one) maybe_comma_stays
names_move (one ∷ (two ∷ rest)) = into _ (λ p. (p.0, p.1.1)) (λ p from to h. h) (seq (name_moves one) (seq (the_stays ",") (names_move (two ∷ rest))))

in_parentheses : {A : Type 0} {R : A → Reading} {r : Reading} → Moves R r → Moves (λ a. the "(" ▸ R a ▸ the ")") (the "(" ▸ r ▸ the ")")
in_parentheses {R = R} moves = into (λ a. the "(" ▸ R a ▸ the ")") (λ p. p.1.0) (λ p from to h. h) (seq (the_stays "(") (seq moves (the_stays ")")))

pub arrow_names_move : (names : List Identifier) → Moves (λ places. s.arrow_names (names_at names places)) (s.arrow_names names)
arrow_names_move [] = in_parentheses (names_move [])
arrow_names_move (one ∷ []) = either (in_parentheses (names_move (one ∷ []))) (into (λ (places : NamePlaces (one ∷ [])). name (named one.name places.0)) (λ place. (place, tt)) (λ p from to h. h) (name_moves one))
arrow_names_move (one ∷ (two ∷ rest)) = in_parentheses (names_move (one ∷ (two ∷ rest)))

pub member_parameters_move : (kind : MemberKind) (names : List Identifier) → Moves (λ places. s.member_parameters kind (names_at names places)) (s.member_parameters kind names)
member_parameters_move m.Value names = names_move names
member_parameters_move m.Short names = names_move names
member_parameters_move m.Method names = names_move names
member_parameters_move m.Getter [] = nothing_stays
member_parameters_move m.Getter (one ∷ rest) = impossible _
member_parameters_move m.Setter [] = impossible _
member_parameters_move m.Setter (one ∷ []) = into _ (λ place. (place, tt)) (λ p from to h. h) (name_moves one)
member_parameters_move m.Setter (one ∷ (two ∷ rest)) = impossible _

-- Pairs of names.

abbrev pub pair_at : Pair → ℕ × ℕ → Pair
pair_at one places = record { taken = named one.taken.name places.0; given = named one.given.name places.1 }

pub outer_name_moves : (one : Identifier) → Moves (λ at. s.outer_name (named one.name at)) (s.outer_name one)
outer_name_moves one =
    either (name_moves one)
    (into (λ at. given (one.name ≡ codes "default") (here at (the "default"))) (λ p. p.0) (λ p from to h. h)
    (under (λ p. one.name ≡ codes "default") (λ p h. h) (here_moves one.at (λ place. the_stays "default"))))

abbrev NameMoves : (Identifier → Reading) → Type 0
NameMoves reading = (one : Identifier) → Moves (λ at. reading (named one.name at)) (reading one)

pair_moves : (both taken other : Identifier → Reading) → NameMoves both → NameMoves taken → NameMoves other → (one : Pair) → Moves (λ places. s.pair both taken other (pair_at one places)) (s.pair both taken other one)
pair_moves both taken other b t o one from to moved alike (inl h) =
    let x = b one.given from to moved alike h.1 in
    ((x.0, x.0), x.1, x.2, inl (ap (λ (i : Identifier). named i.name x.0) h.0, x.3))
pair_moves both taken other b t o one from to moved alike (inr h) =
    let x = seq (t one.taken) (seq (the_name_stays "as") (o one.given)) from to moved alike h in
    ((x.0.0, x.0.1.1), x.1, x.2, inr x.3)

pub imported_moves : (one : Pair) → Moves (λ places. s.imported (pair_at one places)) (s.imported one)
imported_moves one = pair_moves name s.outer_name name name_moves outer_name_moves name_moves one

pub exported_from_moves : (one : Pair) → Moves (λ places. s.exported_from (pair_at one places)) (s.exported_from one)
exported_from_moves one = pair_moves s.outer_name s.outer_name s.outer_name outer_name_moves outer_name_moves outer_name_moves one

pub exported_moves : (one : Pair) → Moves (λ places. s.exported (pair_at one places)) (s.exported one)
exported_moves one = pair_moves name name s.outer_name name_moves name_moves outer_name_moves one

abbrev pub PairPlaces : List Pair → Type 0
PairPlaces [] = Unit {0}
PairPlaces (one ∷ rest) = (ℕ × ℕ) × PairPlaces rest

abbrev pub pairs_at : (pairs : List Pair) → PairPlaces pairs → List Pair
pairs_at [] places = []
pairs_at (one ∷ rest) places = pair_at one places.0 ∷ pairs_at rest places.1

abbrev PairMoves : (Pair → Reading) → Type 0
PairMoves each = (one : Pair) → Moves (λ places. each (pair_at one places)) (each one)

pairs_move : (each : Pair → Reading) → PairMoves each → (pairs : List Pair) → Moves (λ places. s.pairs each (pairs_at pairs places)) (s.pairs each pairs)
pairs_move each moves [] = nothing_stays
pairs_move each moves (one ∷ []) = seq (moves one) maybe_comma_stays
pairs_move each moves (one ∷ (two ∷ rest)) = into _ (λ p. (p.0, p.1.1)) (λ p from to h. h) (seq (moves one) (seq (the_stays ",") (pairs_move each moves (two ∷ rest))))

pub braced_move : (each : Pair → Reading) → PairMoves each → (pairs : List Pair) → Moves (λ places. s.braced each (pairs_at pairs places)) (s.braced each pairs)
braced_move each moves pairs = into _ (λ p. p.1.0) (λ p from to h. h) (seq (the_stays "{") (seq (pairs_move each moves pairs) (the_stays "}")))

default_name_moves : (one : Pair) → Moves (λ places. s.default_name (pair_at one places)) (s.default_name one)
default_name_moves one from to moved alike h =
    let x = name_moves one.given from to moved alike h.1 in
    ((x.0, x.0), x.1, x.2, ((h.0.0, refl), x.3))

default_list_moves : (pairs : List Pair) → Moves (λ places. s.default_list (pairs_at pairs places)) (s.default_list pairs)
default_list_moves [] = impossible _
default_list_moves (one ∷ []) = seq (default_name_moves one) (either nothing_stays (into _ (λ p. tt) (λ p from to h. h) (seq (the_stays ",") (braced_move s.imported imported_moves []))))
default_list_moves (one ∷ (two ∷ rest)) = into _ (λ p. (p.0, p.1.1)) (λ p from to h. h) (seq (default_name_moves one) (seq (the_stays ",") (braced_move s.imported imported_moves (two ∷ rest))))

from_moves : (pairs : List Pair) → Moves (λ places. (s.braced s.imported (pairs_at pairs places) ∣ s.default_list (pairs_at pairs places)) ▸ the_name "from") ((s.braced s.imported pairs ∣ s.default_list pairs) ▸ the_name "from")
from_moves pairs = into _ (λ p. p.0) (λ p from to h. h) (seq (either (braced_move s.imported imported_moves pairs) (default_list_moves pairs)) (the_name_stays "from"))

pub import_list_moves : (pairs : List Pair) → Moves (λ places. s.import_list (pairs_at pairs places)) (s.import_list pairs)
import_list_moves [] = either (under (λ p. [] ≡ []) (λ p h. refl) nothing_stays) (from_moves [])
import_list_moves (one ∷ rest) = either (λ from to moved alike h. absurd (cc h.0)) (from_moves (one ∷ rest))
