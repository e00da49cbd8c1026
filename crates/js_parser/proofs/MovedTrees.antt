-- Each form at other places: a tree's tokens, with other places, are spelled by a tree of the same form.
use Rattle.std.proofs.Common.{◌≡◌, ℕ, ◌+◌, ◌≤◌, Bool, true, false, ◌&&◌, List, [], ◌∷◌, Option, Some, None, refl, ap₂, sym, ◌∙◌, subst, arith}
use Rattle.std.specs.Prelude.{nat_le}
use Rattle.es_model.specs.declared.kinds.Semi.{Semi}
use Rattle.es_model.specs.declared.names.Identifier.{Identifier}
use Rattle.es_model.specs.Tree as t
use Rattle.es_model.specs.Tree.{Tree, Text}
use Rattle.es_model.specs.Levels.{level, is_nullish, is_bare_new, has_call, is_target, is_declaration, ends_in_short_if, defaults, all_initialised, is_constructor_key, Holder, InObject, InClass}
use Rattle.es_model.specs.Readings.{Reading, ◌▸◌, given, the}
use Rattle.es_model.specs.Spelling as s
use Rattle.es_model.specs.Spelling.{Spells, FunctionUse, AsExpression, AsStatement, AsDefault, AsMember}
use Rattle.js_parser.proofs.Moved.{Moves, seq, into, under, impossible, nothing_stays, the_stays, piece_stays}
use Rattle.js_parser.proofs.MovedWords.{maybe_comma_stays, semicolons_stay, OwnPlace, own_at, catch_name_moves}

-- What the grammar asks of a tree by its form alone, the same for two trees.
abbrev pub Same : (s : t.Sort) → Tree s → Tree s → Type 0
Same t.expression a b = (level a ≡ level b) × (is_target a ≡ is_target b) × (is_nullish a ≡ is_nullish b) × (is_bare_new a ≡ is_bare_new b) × (has_call a ≡ has_call b)
Same t.key a b = is_constructor_key a ≡ is_constructor_key b
Same t.function a b = level (t.Function a) ≡ level (t.Function b)
Same t.statement a b = (is_declaration a ≡ is_declaration b) × (ends_in_short_if a ≡ ends_in_short_if b)
Same t.declarator a b = all_initialised (t.more a t.none) ≡ all_initialised (t.more b t.none)
Same t.case a b = defaults (t.more a t.none) ≡ defaults (t.more b t.none)
Same _ a b = Unit {0}

abbrev pub Like : {s : t.Sort} → Tree s → Type 0
Like {s} tree = (other : Tree s) × Same s tree other

-- a function that stands in a member stands in one at another place
abbrev pub use_at : ℕ → FunctionUse → FunctionUse
use_at place (AsMember at due member) = AsMember place due member
use_at place AsExpression = AsExpression
use_at place AsStatement = AsStatement
use_at place AsDefault = AsDefault

abbrev pub Each : {s : t.Sort} → (Tree s → Type 0) → Tree (t.list s) → Type 0
Each claim t.none = Unit {0}
Each claim (t.more tree trees) = claim tree × Each claim trees

abbrev pub IfThere : {s : t.Sort} → (Tree s → Type 0) → Tree (t.option s) → Type 0
IfThere claim t.absent = Unit {0}
IfThere claim (t.present tree) = claim tree

-- the tokens of a tree, at other places, are those of a tree like it
abbrev pub Moved : (s : t.Sort) → Tree s → Type 0
Moved (t.list s) trees = Each (Moved s) trees
Moved (t.option s) tree = IfThere (Moved s) tree
Moved t.member tree = (holder : Holder) → Moves {A = Like tree} (λ o. Spells o.0 holder) (Spells tree holder)
Moved t.function tree = (place : ℕ) (use_of : FunctionUse) → Moves {A = Like tree} (λ o. Spells o.0 (use_at place use_of)) (Spells tree use_of)
Moved t.class tree = (written : Bool) → Moves {A = Like tree} (λ o. Spells o.0 written) (Spells tree written)
Moved t.body tree = (arrow : Bool) → Moves {A = Like tree} (λ o. Spells o.0 arrow) (Spells tree arrow)
Moved t.default tree = (mark : Semi) → Moves {A = Like tree} (λ o. Spells o.0 mark) (Spells tree mark)
Moved t.expression tree = Moves {A = Like tree} (λ o. Spells o.0) (Spells tree)
Moved t.key tree = Moves {A = Like tree} (λ o. Spells o.0) (Spells tree)
Moved t.head tree = Moves {A = Like tree} (λ o. Spells o.0) (Spells tree)
Moved t.declarator tree = Moves {A = Like tree} (λ o. Spells o.0) (Spells tree)
Moved t.case tree = Moves {A = Like tree} (λ o. Spells o.0) (Spells tree)
Moved t.statement tree = Moves {A = Like tree} (λ o. Spells o.0) (Spells tree)
Moved t.item tree = Moves {A = Like tree} (λ o. Spells o.0) (Spells tree)

-- Operands.

pub least_moves : (lowest : ℕ) (tree : Tree t.expression) → Moved t.expression tree → Moves {A = Like tree} (λ o. s.least lowest o.0 (Spells o.0)) (s.least lowest tree (Spells tree))
least_moves lowest tree moves = under (λ (o : Like tree). lowest ≤ level o.0) (λ o h. subst (λ n. lowest ≤ n) o.1.0 h) moves

pub base_moves : (tree : Tree t.expression) → Moved t.expression tree → Moves {A = Like tree} (λ o. s.base o.0 (Spells o.0)) (s.base tree (Spells tree))
base_moves tree moves = under (λ (o : Like tree). (17 ≤ level o.0) × (is_bare_new o.0 ≡ false)) (λ o h. (subst (λ n. 17 ≤ n) o.1.0 h.0, sym o.1.3 ∙ h.1)) moves

pub callee_moves : (tree : Tree t.expression) → Moved t.expression tree → Moves {A = Like tree} (λ o. s.new_callee o.0 (Spells o.0)) (s.new_callee tree (Spells tree))
callee_moves tree moves = under (λ (o : Like tree). (17 ≤ level o.0) × (has_call o.0 ≡ false)) (λ o h. (subst (λ n. 17 ≤ n) o.1.0 h.0, sym o.1.4 ∙ h.1)) moves

pub target_moves : (tree : Tree t.expression) → Moved t.expression tree → Moves {A = Like tree} (λ o. s.target o.0 (Spells o.0)) (s.target tree (Spells tree))
target_moves tree moves = under (λ (o : Like tree). is_target o.0 ≡ true) (λ o h. sym o.1.1 ∙ h) moves

pub inner_moves : (tree : Tree t.statement) → Moved t.statement tree → Moves {A = Like tree} (λ o. s.inner o.0 (Spells o.0)) (s.inner tree (Spells tree))
inner_moves tree moves = under (λ (o : Like tree). is_declaration o.0 ≡ false) (λ o h. sym o.1.0 ∙ h) moves

-- Lists, with as many trees.

abbrev pub Likes : {s : t.Sort} → Tree (t.list s) → Type 0
Likes t.none = Unit {0}
Likes (t.more tree trees) = Like tree × Likes trees

abbrev pub list_at : {s : t.Sort} (list : Tree (t.list s)) → Likes list → Tree (t.list s)
list_at t.none likes = t.none
list_at (t.more tree trees) likes = t.more likes.0.0 (list_at trees likes.1)

elements_same : (list : Tree (t.list t.expression)) (likes : Likes list) → s.are_elements list ≡ s.are_elements (list_at list likes)
elements_same t.none likes = refl
elements_same (t.more tree trees) likes = ap₂ (λ n b. nat_le 2 n && b) likes.0.1.0 (elements_same trees likes.1)

first_initialised : (one : Tree t.declarator) (rest : Tree (t.list t.declarator)) → all_initialised (t.more one rest) ≡ (all_initialised (t.more one t.none) && all_initialised rest)
first_initialised (t.DeclaratorOf own t.absent) rest = refl
first_initialised (t.DeclaratorOf own (t.present value)) rest = refl

initialised_same : (list : Tree (t.list t.declarator)) (likes : Likes list) → all_initialised list ≡ all_initialised (list_at list likes)
initialised_same t.none likes = refl
initialised_same (t.more tree trees) likes =
    first_initialised tree trees
    ∙ ap₂ (λ a b. a && b) likes.0.1 (initialised_same trees likes.1)
    ∙ sym (first_initialised likes.0.0 (list_at trees likes.1))

pub initialised_kept : (constant : Bool) (list : Tree (t.list t.declarator)) (likes : Likes list) → s.Initialised constant list → s.Initialised constant (list_at list likes)
initialised_kept true list likes h = sym (initialised_same list likes) ∙ h
initialised_kept false list likes h = tt

first_default : (one : Tree t.case) (rest : Tree (t.list t.case)) → defaults (t.more one rest) ≡ defaults (t.more one t.none) + defaults rest
first_default (t.CaseOf t.absent body) rest = omega arith
first_default (t.CaseOf (t.present test) body) rest = omega arith

pub defaults_same : (list : Tree (t.list t.case)) (likes : Likes list) → defaults list ≡ defaults (list_at list likes)
defaults_same t.none likes = refl
defaults_same (t.more tree trees) likes =
    first_default tree trees
    ∙ ap₂ (λ a b. a + b) likes.0.1 (defaults_same trees likes.1)
    ∙ sym (first_default likes.0.0 (list_at trees likes.1))

separated_move : (list : Tree (t.list t.expression)) → Each (Moved t.expression) list → Moves (λ p. s.separated (Spells (list_at list p))) (s.separated (Spells list))
unfolding Spells
separated_move t.none each = nothing_stays
separated_move (t.more one t.none) each = seq each.0 maybe_comma_stays
separated_move (t.more one (t.more two rest)) each = into _ (λ p. (p.0, p.1.1)) (λ p from to h. h) (seq each.0 (seq (the_stays ",") (separated_move (t.more two rest) each.1)))

-- the elements of an array, and arguments
pub elements_move : (list : Tree (t.list t.expression)) → Each (Moved t.expression) list
    → Moves (λ p. given (s.are_elements (list_at list p) ≡ true) (s.separated (Spells (list_at list p)))) (given (s.are_elements list ≡ true) (s.separated (Spells list)))
elements_move list each = under (λ p. s.are_elements (list_at list p) ≡ true) (λ p h. sym (elements_same list p) ∙ h) (separated_move list each)

abbrev pub arguments_of : Tree (t.list t.expression) → Reading
arguments_of list = the "(" ▸ given (s.are_elements list ≡ true) (s.separated (Spells list)) ▸ the ")"

pub arguments_move : (list : Tree (t.list t.expression)) → Each (Moved t.expression) list → Moves (λ p. arguments_of (list_at list p)) (arguments_of list)
arguments_move list each = into _ (λ p. p.1.0) (λ p from to h. h) (seq (the_stays "(") (seq (elements_move list each) (the_stays ")")))

pub pieces_move : (first : Bool) (texts : List Text) (list : Tree (t.list t.expression)) → Each (Moved t.expression) list → Moves (λ p. s.pieces first texts (Spells (list_at list p))) (s.pieces first texts (Spells list))
unfolding Spells
pieces_move first [] list each = impossible _
pieces_move first (text ∷ []) t.none each = piece_stays text first true
pieces_move first (text ∷ (other ∷ texts)) t.none each = impossible _
pieces_move first (text ∷ texts) (t.more one rest) each = into _ (λ p. p.1) (λ p from to h. h) (seq (piece_stays text first false) (seq each.0 (pieces_move false texts rest each.1)))

pub joined_move : (list : Tree (t.list t.declarator)) → Each (Moved t.declarator) list → Moves (λ p. s.joined (Spells (list_at list p))) (s.joined (Spells list))
unfolding Spells
joined_move t.none each = impossible _
joined_move (t.more one t.none) each = into _ (λ a. (a, tt)) (λ p from to h. h) each.0
joined_move (t.more one (t.more two rest)) each = into _ (λ p. (p.0, p.1.1)) (λ p from to h. h) (seq each.0 (seq (the_stays ",") (joined_move (t.more two rest) each.1)))

pub statements_move : (list : Tree (t.list t.statement)) → Each (Moved t.statement) list → Moves (λ p. s.sequence (Spells (list_at list p))) (s.sequence (Spells list))
unfolding Spells
statements_move t.none each = nothing_stays
statements_move (t.more one rest) each = seq each.0 (statements_move rest each.1)

pub cases_move : (list : Tree (t.list t.case)) → Each (Moved t.case) list → Moves (λ p. s.sequence (Spells (list_at list p))) (s.sequence (Spells list))
unfolding Spells
cases_move t.none each = nothing_stays
cases_move (t.more one rest) each = seq each.0 (cases_move rest each.1)

pub items_move : (list : Tree (t.list t.item)) → Each (Moved t.item) list → Moves (λ p. s.sequence (Spells (list_at list p))) (s.sequence (Spells list))
unfolding Spells
items_move t.none each = nothing_stays
items_move (t.more one rest) each = seq each.0 (items_move rest each.1)

pub braces_move : (list : Tree (t.list t.statement)) → Each (Moved t.statement) list → Moves (λ p. s.braces (Spells (list_at list p))) (s.braces (Spells list))
braces_move list each = into _ (λ p. p.1.0) (λ p from to h. h) (seq (the_stays "{") (seq (statements_move list each) (the_stays "}")))

pub class_members_move : (derived : Bool) (list : Tree (t.list t.member)) → Each (Moved t.member) list → Moves (λ p. s.class_members derived (Spells (list_at list p))) (s.class_members derived (Spells list))
unfolding Spells
class_members_move derived t.none each = semicolons_stay
class_members_move derived (t.more one rest) each = into _ (λ p. p.1) (λ p from to h. h) (seq semicolons_stay (seq (each.0 (InClass derived)) (class_members_move derived rest each.1)))

pub object_members_move : (list : Tree (t.list t.member)) → Each (Moved t.member) list → Moves (λ p. s.object_members (Spells (list_at list p))) (s.object_members (Spells list))
unfolding Spells
object_members_move t.none each = nothing_stays
object_members_move (t.more one t.none) each = seq (each.0 InObject) maybe_comma_stays
object_members_move (t.more one (t.more two rest)) each = into _ (λ p. (p.0, p.1.1)) (λ p from to h. h) (seq (each.0 InObject) (seq (the_stays ",") (object_members_move (t.more two rest) each.1)))

pub maybe_moves : (option : Tree (t.option t.expression)) → IfThere (Moved t.expression) option → Moves {A = Like option} (λ o. s.maybe (Spells o.0)) (s.maybe (Spells option))
unfolding Spells
maybe_moves t.absent there = into _ (λ p. (t.absent, tt)) (λ p from to h. h) nothing_stays
maybe_moves (t.present tree) moves = into _ (λ p. (t.present p.0, tt)) (λ p from to h. h) moves

-- the block behind `catch` or `finally`, where it stands
abbrev pub BlockLike : Tree (t.option (t.list t.statement)) → Type 0
BlockLike t.absent = Unit {0}
BlockLike (t.present list) = Likes list

abbrev pub block_at : (block : Tree (t.option (t.list t.statement))) → BlockLike block → Tree (t.option (t.list t.statement))
block_at t.absent like = t.absent
block_at (t.present list) like = t.present (list_at list like)

pub finally_moves : (block : Tree (t.option (t.list t.statement))) → IfThere (Each (Moved t.statement)) block → Moves (λ p. s.guard (the "finally") (Spells (block_at block p))) (s.guard (the "finally") (Spells block))
unfolding Spells
finally_moves t.absent there = nothing_stays
finally_moves (t.present list) each = into _ (λ p. p.1) (λ p from to h. h) (seq (the_stays "finally") (braces_move list each))

pub catch_moves : (own : Option Identifier) (block : Tree (t.option (t.list t.statement))) → IfThere (Each (Moved t.statement)) block
    → Moves {A = OwnPlace own × BlockLike block} (λ p. s.guard (the "catch" ▸ s.catch_name (own_at own p.0)) (Spells (block_at block p.1))) (s.guard (the "catch" ▸ s.catch_name own) (Spells block))
unfolding Spells
catch_moves None t.absent there = into _ (λ p. (tt, tt)) (λ p from to h. h) nothing_stays
catch_moves (Some one) t.absent there = into _ (λ p. (one.at, tt)) (λ p from to h. h) nothing_stays
catch_moves own (t.present list) each = into _ (λ p. (p.0.1, p.1)) (λ p from to h. h) (seq (seq (the_stays "catch") (catch_name_moves own)) (braces_move list each))

pub guards_same : (own : Option Identifier) (place : OwnPlace own) (catch finally : Tree (t.option (t.list t.statement))) (c : BlockLike catch) (d : BlockLike finally) → s.GuardsAre own catch finally → s.GuardsAre (own_at own place) (block_at catch c) (block_at finally d)
guards_same own place (t.present list) finally c d h = tt
guards_same None place t.absent (t.present list) c d h = tt
guards_same (Some one) place t.absent (t.present list) c d h = absurd h
guards_same own place t.absent t.absent c d h = absurd h
