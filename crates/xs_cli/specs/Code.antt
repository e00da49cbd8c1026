-- The code of a thin module: its names, and its body's instructions.
use Rattle.std.specs.Prelude.{ℕ, ◌+◌, ◌++◌, Bool, List, [], ◌∷◌, is_some, codes, if◌then◌else◌}
use Rattle.std.specs.List.{position, position_or_len}
use Rattle.std.specs.Str.{bytes_eq}
use Rattle.es_model.specs.Tree.{Text}
use Rattle.byte_code.specs.declared.instruction.Op.{Op}
use Rattle.byte_code.specs.declared.instruction.Op.TheVariants as op
use Rattle.byte_code.specs.Instructions.{spelling, IsInstruction}

-- ---- names, each once, in the order of first mention; their numbers count from 1

abbrev pub has_name : List Text → Text → Bool
has_name names text = is_some (position (λ name. bytes_eq name text) names)

abbrev pub with_name : List Text → Text → List Text
with_name names text = if has_name names text then names else names ++ text ∷ []

unfoldable pub with_names : List Text → List Text → List Text
with_names names [] = names
with_names names (text ∷ texts) = with_names (with_name names text) texts

-- the module's own name comes first
abbrev pub names_of : List Text → List Text
names_of texts = with_names (codes "main" ∷ []) texts

abbrev pub number : List Text → Text → ℕ
number names text = position_or_len (λ name. bytes_eq name text) names + 1

-- ---- instructions

-- print is the module's first binding, and so the first of the body's outer list
abbrev pub print_text : ℕ → List Op
print_text name = op.Undefined ∷ op.OuterGet 0 ∷ op.Text name ∷ op.Call 1 ∷ op.Pop ∷ []

unfoldable pub body : List Text → List Text → List Op
body names [] = op.Undefined ∷ op.Return ∷ []
body names (text ∷ texts) = print_text (number names text) ++ body names texts

-- the bytes of instructions one after the other
unfoldable pub spelled : List Op → List ℕ
spelled [] = []
spelled (op ∷ ops) = spelling op ++ spelled ops

-- each of them has a spelling
abbrev pub AreInstructions : List Op → Type 0
AreInstructions [] = Unit {0}
AreInstructions (op ∷ ops) = IsInstruction op × AreInstructions ops
