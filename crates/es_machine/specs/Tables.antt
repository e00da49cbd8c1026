-- What the machine reads of a table of modules. Names are numbered from 1, modules, functions, places and outer cells from 0.
use Rattle.std.specs.Prelude.{ℕ, ◌-◌, nat_le, nat_lt, ◌&&◌, cond, List, [], ◌∷◌, map, Option, Some, None, slice_get, get_or}
use Rattle.byteorder.specs.Endian.{big_number}
use Rattle.byte_code.specs.declared.records.FunctionCode.{FunctionCode}
use Rattle.byte_code.specs.declared.records.ModuleCode.{ModuleCode}
use Rattle.byte_code.specs.declared.records.Modules.{Modules}
use Rattle.byte_code.specs.declared.records.CodeExport.{CodeExport}
use Rattle.byte_code.specs.declared.records.CodeExport.TheVariants.{Local, From}
use Rattle.js_value.specs.Value.{Text}
use Rattle.es_ops.specs.State.{FunctionSort, OnlyCalled, CalledAndConstructed, OnlyConstructed}

-- ---- names

abbrev pub name_in : Modules → ℕ → Text
name_in table n = get_or table.names (n - 1) []

-- ---- functions

abbrev pub functions_of : Option ModuleCode → List FunctionCode
functions_of None = []
functions_of (Some m) = m.functions

abbrev pub functions_in : Modules → (module_number : ℕ) → List FunctionCode
functions_in table module_number = functions_of (slice_get table.modules module_number)

abbrev pub function_in : Modules → (module_number function_number : ℕ) → Option FunctionCode
function_in table module_number function_number = slice_get (functions_in table module_number) function_number

pub data FunctionKind : Type 0 where
  Plain : FunctionKind
  Arrow : FunctionKind
  Method : FunctionKind
  Base : FunctionKind  -- the constructor of a class without `extends`
  Derived : FunctionKind
  Body : FunctionKind  -- of a module
  DefaultDerived : FunctionKind  -- the constructor of a class with `extends` that writes none; it has no code

abbrev pub kinds : List FunctionKind
kinds = Plain ∷ Arrow ∷ Method ∷ Base ∷ Derived ∷ Body ∷ DefaultDerived ∷ []

abbrev pub kind_of : FunctionCode → FunctionKind
kind_of f = get_or kinds f.kind Plain

abbrev pub sort_of_kind : FunctionKind → FunctionSort
sort_of_kind Plain = CalledAndConstructed
sort_of_kind Arrow = OnlyCalled
sort_of_kind Method = OnlyCalled
sort_of_kind Base = OnlyConstructed
sort_of_kind Derived = OnlyConstructed
sort_of_kind Body = OnlyCalled
sort_of_kind DefaultDerived = OnlyConstructed

-- what each function of each module is
abbrev pub sorts_in : Modules → List (List FunctionSort)
sorts_in table = map (λ m. map (λ f. sort_of_kind (kind_of f)) m.functions) table.modules

-- ---- handlers

-- The innermost handler whose range holds an offset. For each, innermost first, the code has the start and the end of its
-- range and its target, two bytes each.
abbrev pub handler_at : (handlers : List ℕ) → ℕ → Option ℕ
handler_at (a ∷ b ∷ c ∷ d ∷ e ∷ f ∷ handlers) at =
    cond (nat_le (big_number 2 (a ∷ b ∷ [])) at && nat_lt at (big_number 2 (c ∷ d ∷ [])))
    (Some (big_number 2 (e ∷ f ∷ [])))
    (handler_at handlers at)
handler_at handlers at = None

-- ---- exports

-- the top-level numbers of a module's exports that are bindings of its own
abbrev pub local_exports : List CodeExport → List ℕ
local_exports [] = []
local_exports (Local name at ∷ exports) = at ∷ local_exports exports
local_exports (From name source asked ∷ exports) = local_exports exports
