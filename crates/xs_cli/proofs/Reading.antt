-- What the parts of a text say of the strings that it prints.
use Rattle.std.proofs.Common.{◌≡◌, ◌∙◌, ◌++◌, ◌&&◌, ℕ, Bool, true, false, List, [], ◌∷◌, Some, None, option_map, if◌then◌else◌, refl, ap, length, nat_le}
use Rattle.std.specs.List.{list_all}
use Rattle.js_value.specs.Text.{units}
use Rattle.xs_cli.specs.Thin.{parts, spells, strings, end_tokens, print_tokens, is_plain, thin, whole, most_bytes}

either : {A : Type 0} (b : Bool) (a : A) → (if b then a else a) ≡ a
either true a = refl
either false a = refl

pub last : (called b : Bool) (text : List ℕ) → parts text ≡ text ∷ [] → spells (end_tokens called) text ≡ b → strings called (parts text) ≡ (if b then Some [] else None)
unfolding strings
last called b text p s = rw p (rw s refl)

pub no_string : (called : Bool) (text between behind : List ℕ) → parts text ≡ between ∷ parts behind → parts behind ≡ behind ∷ [] → strings called (parts text) ≡ None
unfolding strings
no_string called text between behind p q = ap (strings called) (p ∙ ap (λ rest. between ∷ rest) q) ∙ either _ None

pub one_more : (called b d : Bool) (text between behind argument later : List ℕ) → parts text ≡ between ∷ parts behind → parts behind ≡ argument ∷ parts later → spells (end_tokens called ++ print_tokens) between ≡ b → list_all is_plain argument ≡ d → strings called (parts text) ≡ (if b && d then option_map (λ texts. units argument ∷ texts) (strings true (parts later)) else None)
unfolding strings
one_more called b d text between behind argument later p q s t = rw (p, q, s, t) refl

pub no_import : (text head behind : List ℕ) → parts text ≡ head ∷ parts behind → parts behind ≡ behind ∷ [] → whole (parts text) ≡ None
unfolding strings
no_import text head behind p q = ap whole (p ∙ ap (λ rest. head ∷ rest) q) ∙ either _ None

pub refused : (text : List ℕ) → whole (parts text) ≡ None → thin text ≡ None
refused text h = ap (λ read. if nat_le (length text) most_bytes then read else None) h ∙ either _ None
