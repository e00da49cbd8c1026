-- What the laws of tokens and trees are stated in (own).
use Rattle.std.specs.Prelude.{◌≡◌, ℕ, suc, ◌+◌, ◌<◌, ◌≤◌, Bool, true, false, ◌||◌, List, [], ◌∷◌, ◌++◌, length, slice_get, Some}
use Rattle.std.specs.List.{flat_map}
use Rattle.es_model.specs.declared.token.Token.{Token}
use Rattle.es_model.specs.declared.token.TokenKind.{TokenKind}
use Rattle.es_model.specs.declared.place.Place.{Place}
use Rattle.es_model.specs.declared.place.Place.TheVariants.{Local, Boxed, Outer, Import, Global, Unbound}
use Rattle.es_model.specs.Tree as t
use Rattle.es_model.specs.Tree.{Tree, Text}
use Rattle.es_model.specs.Tokens.{Between, Word, Wrong, Brace, Part, element, braces_after}
use Rattle.es_model.specs.Readings.{same_kind, is_end, word}
use Rattle.es_model.specs.Functions.{FunctionForm, Written, Generated}
use Rattle.es_model.specs.Scopes.{Enclosing, Binding}
use Rattle.es_model.specs.FreeNames.{Mentioned, Binds, Refers, Free, Temporary, same_binding, captured, outer_list, HoldsBinding, HoldsTemporary, places, global_names}

-- The places of tokens ascend strictly, and none is below `low`.
abbrev pub AscendFrom : ℕ → List Token → Type 0
AscendFrom low [] = Unit {0}
AscendFrom low (token ∷ tokens) = (low ≤ token.at) × AscendFrom (suc token.at) tokens

-- A list of tokens has one End, its last.
abbrev pub EndsOnce : List Token → Type 0
EndsOnce [] = ⊥
EndsOnce (token ∷ tokens) = elim (is_end token) [ true ↦ tokens ≡ [] | false ↦ EndsOnce tokens ]

-- A character and those after it are one token, given the braces that are open at its place.
abbrev pub IsOneToken : List Brace → ℕ → ℕ → List ℕ → Type 0
IsOneToken braces at c cs = (kind : TokenKind) × (element braces at c cs ≡ Word kind (length cs))

-- Of the texts that begin with a character and are a front of what is left, one with so many characters
-- after it is the longest token: any other that is one token is no longer.
abbrev pub IsLongest : List Brace → ℕ → ℕ → List ℕ → ℕ → Type 0
IsLongest braces at c cs more = (front rest : List ℕ) → front ++ rest ≡ cs → IsOneToken braces at c front → length front ≤ more

-- the same of what is left of a text, at whose end nothing stands
abbrev pub LongestIn : List Brace → ℕ → List ℕ → ℕ → Type 0
LongestIn braces at [] more = Unit {0}
LongestIn braces at (c ∷ cs) more = IsLongest braces at c cs more

-- the text of parts
abbrev pub joined : List Part → List ℕ
joined parts = flat_map (λ part. part.spelling) parts

-- Each token among the parts of a text is the longest that begins at its place.
abbrev pub EachLongest : List Brace → List Part → Type 0
EachLongest braces [] = Unit {0}
EachLongest braces (part ∷ parts) =
    elim part.element [
      | Between line more ↦ EachLongest braces parts
      | Word kind more ↦ LongestIn braces part.at (joined (part ∷ parts)) more × EachLongest (braces_after part.at kind braces) parts
      | Wrong fault ↦ Unit {0}
    ]

-- the place where the text of a function begins; of a generated constructor, that of the word `class`
abbrev pub place_of_function : FunctionForm → ℕ
place_of_function (Written (t.FunctionOf at name kind parameters body)) = at
place_of_function (Generated (t.ClassOf at name parent members)) = at

-- The places of functions ascend strictly, and none is below `low`.
abbrev pub FunctionsAscendFrom : ℕ → List FunctionForm → Type 0
FunctionsAscendFrom low [] = Unit {0}
FunctionsAscendFrom low (form ∷ forms) = (low ≤ place_of_function form) × FunctionsAscendFrom (suc (place_of_function form)) forms

-- The opening signs are `(`, `[` and `{`, and the closing ones `)`, `]` and `}`. The braces of a
-- template's substitutions are no signs.
abbrev pub opens : TokenKind → Bool
opens kind = same_kind kind (word "(") || same_kind kind (word "[") || same_kind kind (word "{")

abbrev pub closes : TokenKind → Bool
closes kind = same_kind kind (word ")") || same_kind kind (word "]") || same_kind kind (word "}")

-- how many of some tokens are opening signs, and how many are closing ones
abbrev pub one_if : Bool → ℕ
one_if true = 1
one_if false = 0

abbrev pub openings : List Token → ℕ
openings [] = 0
openings (token ∷ tokens) = one_if (opens token.kind) + openings tokens

abbrev pub closings : List Token → ℕ
closings [] = 0
closings (token ∷ tokens) = one_if (closes token.kind) + closings tokens

-- Where what a mention means is held.

-- An entry of a function's outer list, and a place of its own, hold a binding.
abbrev pub InOuterList : Tree (t.list t.item) → List Enclosing → Binding → ℕ → Type 0
InOuterList items round binding place = (other : Binding) × (slice_get (outer_list items round) place ≡ Some other) × (same_binding binding other ≡ true)

abbrev pub InOwnPlaces : Tree (t.list t.item) → List Enclosing → Binding → ℕ → Type 0
InOwnPlaces items round binding place = (other : Binding) × (slice_get (places items round) place ≡ Some (HoldsBinding other)) × (same_binding binding other ≡ true)

-- A place within some functions holds a binding: in a box exactly where the binding is captured.
abbrev pub HoldsBindingAt : Tree (t.list t.item) → List Enclosing → Binding → Place → Type 0
HoldsBindingAt items round binding (Local place) = InOwnPlaces items round binding place × (captured items binding ≡ false)
HoldsBindingAt items round binding (Boxed place) = InOwnPlaces items round binding place × (captured items binding ≡ true)
HoldsBindingAt items round binding (Outer place) = InOuterList items round binding place
HoldsBindingAt items round binding (Import place) = InOuterList items round binding place
HoldsBindingAt items round binding (Global row) = ⊥
HoldsBindingAt items round binding Unbound = ⊥

-- A name that nothing binds is the global of a row, or no global at all.
abbrev pub IsGlobalAt : Text → Place → Type 0
IsGlobalAt name (Global row) = slice_get global_names row ≡ Some name
IsGlobalAt name Unbound = (row : ℕ) → slice_get global_names row ≡ Some name → ⊥
IsGlobalAt name _ = ⊥

-- What the mention of a number means is held at a place.
abbrev pub HeldAt : Tree (t.list t.item) → ℕ → List Enclosing → Mentioned → Place → Type 0
HeldAt items number round (Binds binding) place = HoldsBindingAt items round binding place
HeldAt items number round (Refers binding) place = HoldsBindingAt items round binding place
HeldAt items number round (Free name) place = IsGlobalAt name place
HeldAt items number round Temporary (Local place) = slice_get (places items round) place ≡ Some (HoldsTemporary number)
HeldAt items number round Temporary _ = ⊥

-- A place is one of the function round it, an entry of its outer list, or a global's row.
abbrev pub IsWithin : Tree (t.list t.item) → List Enclosing → Place → Type 0
IsWithin items round (Local place) = place < length (places items round)
IsWithin items round (Boxed place) = place < length (places items round)
IsWithin items round (Outer place) = place < length (outer_list items round)
IsWithin items round (Import place) = place < length (outer_list items round)
IsWithin items round (Global row) = row < length global_names
IsWithin items round Unbound = Unit {0}
