-- Where a module has no code: what is past its number (own limits).
use Rattle.std.specs.Prelude.{ℕ, suc, ◌+◌, Bool, true, false, ◌||◌, nat_lt, List, [], ◌∷◌, length, Option, Some, None}
use Rattle.std.specs.List.{list_any}
use Rattle.es_model.specs.Tree as t
use Rattle.es_model.specs.Tree.{Tree, Text}
use Rattle.es_model.specs.Functions.{functions}
use Rattle.es_model.specs.Scopes.{Setting, gather, top_setting, top_bindings}
use Rattle.code_gen.specs.Steps.{Step}
use Rattle.code_gen.specs.Assembly.{step_size, greatest_height}
use Rattle.code_gen.specs.Functions.{Function, all_functions}
use Rattle.code_gen.specs.Modules.{distinct, mentioned_names, requests, imports}

-- C1 to C5
pub data CodeFault : Type 0 where
  FunctionTooLong : CodeFault
  FrameTooLarge : CodeFault
  TooManyFunctions : CodeFault
  TooManyNames : CodeFault
  TooManyArguments : CodeFault

abbrev past : ℕ → ℕ → Bool
past limit n = nat_lt limit n

-- a code of more than 65,535 bytes
abbrev code_size : List Step → ℕ
code_size [] = 0
code_size (one ∷ rest) = step_size one + code_size rest

abbrev is_too_long : Function → Bool
is_too_long one = past 65535 (code_size one.steps)

-- more than 512 places, or a stack that grows higher than 512
abbrev is_too_large : Function → Bool
is_too_large one = past 512 one.locals || past 512 (greatest_height one.steps)

-- the numbers of arguments, of parameters, and of the texts and values of templates
abbrev count : {s : t.Sort} → Tree (t.list s) → ℕ
count t.none = 0
count (t.more one rest) = suc (count rest)

abbrev arguments_at : {s : t.Sort} → Setting → Tree s → List ℕ
arguments_at g (t.Call callee arguments) = count arguments ∷ []
arguments_at g (t.New callee (t.present arguments)) = count arguments ∷ []
arguments_at g (t.SuperCall at arguments) = count arguments ∷ []
arguments_at g (t.Template texts values) = (length texts + count values) ∷ []
arguments_at g (t.FunctionOf at name kind parameters body) = length parameters ∷ []
arguments_at g _ = []

abbrev pub argument_counts : Tree (t.list t.item) → List ℕ
argument_counts items = gather (record { at_node = λ s g tree. arguments_at {s = s} g tree; at_catch = λ g name. [] }) (top_setting items) items

-- the outer list of the module or of a function, its requests, or its imports are more than 65,535
abbrev captures_too_many : Function → Bool
captures_too_many one = past 65535 (length one.captures)

abbrev lists_too_many : Tree (t.list t.item) → List Function → Bool
lists_too_many items all =
    past 65535 (length (top_bindings items)) || list_any captures_too_many all || past 65535 (length (distinct (requests items))) || past 65535 (length (imports items))

abbrev pub Failing : Type 0
Failing = List (Bool × CodeFault)

abbrev first_failing : Failing → Option CodeFault
first_failing [] = None
first_failing ((true, one) ∷ rest) = Some one
first_failing ((false, one) ∷ rest) = first_failing rest

abbrev failing : Tree (t.list t.item) → Text → List Function → Failing
failing items name all =
    (list_any is_too_long all, FunctionTooLong) ∷
    (list_any is_too_large all, FrameTooLarge) ∷
    (past 4096 (length all), TooManyFunctions) ∷
    (past 65535 (length (distinct (mentioned_names items name all))), TooManyNames) ∷
    (list_any (past 255) (argument_counts items), TooManyArguments) ∷
    (lists_too_many items all, TooManyNames) ∷ []

-- why a module of a name has no code; none where it has
abbrev pub fault : Tree (t.list t.item) → Text → Option CodeFault
fault items name = first_failing (failing items name (all_functions items name (functions items)))
