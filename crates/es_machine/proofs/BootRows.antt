-- Set-up, bodies and jobs by the machine, and a whole boot.
use Rattle.std.proofs.Common.{◌≡◌, List, [], ◌∷◌, true, false, refl, Option, Some, None, pos, codes}
use Rattle.byte_code.specs.declared.instruction.Op.TheVariants as i
use Rattle.byte_code.specs.declared.records.FunctionCode.{FunctionCode}
use Rattle.byte_code.specs.declared.records.Modules.{Modules}
use Rattle.byte_code.specs.declared.records.CodeExport.TheVariants.{Local}
use Rattle.js_value.specs.Value.{Value}
use Rattle.es_ops.specs.State.{State, ModuleState, NotEvaluated, Evaluated}
use Rattle.es_ops.specs.Boot.{Started, Starts, NoPlan, Outcome, Finished, set_up, evaluate, started, gone, default_export}
use Rattle.es_ops.specs.Boot.{Engine}
use Rattle.es_machine.specs.Bodies.{engine, body, calls}
use Rattle.es_machine.proofs.Samples.{number, code_with, from_outer, rows, state_with, computing}

-- the module a has a const binding b, which it exports as the default, and a function that reads it; its body gives b 7
-- and calls the function
functions : List FunctionCode
functions =
    code_with 5 0 [] (i.Int (pos 7) ∷ i.OuterInit 0 ∷ i.Null ∷ i.OuterGet 1 ∷ i.Call 0 ∷ i.Return ∷ []) ∷
    code_with 0 0 (from_outer 0 ∷ []) (i.OuterGet 0 ∷ i.Return ∷ []) ∷ []

table : Modules
table = record {
  names = codes "a" ∷ codes "b" ∷ [] ∷ codes "default" ∷ [];
  modules = record { name = 1; state = 0; requests = []; imports = []; exports = Local 4 0 ∷ []; declared = true ∷ false ∷ []; hoisted = record { at = 1; function = 1 } ∷ []; functions = functions; names = [] } ∷ [];
}

begin : State
begin = let s = state_with table [] in record s { world = record s.world { modules = NotEvaluated ∷ [] } }

the_engine : Engine
the_engine = engine table rows 200

modules_of : Started → List ModuleState
modules_of (Starts (Finished s)) = s.world.modules
modules_of _ = []

-- main's default export once no job is left
export_of : Outcome → Option Value
export_of (Finished s) = default_export the_engine (codes "a") s
export_of _ = None

result_of : Started → Option Value
result_of (Starts outcome) = export_of (gone the_engine None outcome)
result_of (NoPlan fault) = None

-- the cells are 22 and 23; of them 22 is exported
evaluated : modules_of (started the_engine (codes "a") begin) ≡ Evaluated (22 ∷ []) ∷ []
unfolding computing started set_up evaluate body calls functions table begin the_engine modules_of
evaluated = refl

result : result_of (started the_engine (codes "a") begin) ≡ Some (number 7)
unfolding computing started set_up evaluate body calls gone functions table begin the_engine result_of export_of
result = refl
