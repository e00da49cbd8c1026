-- Calls of script functions, constructions, handlers, and functions and classes that are made.
use Rattle.std.proofs.Common.{◌≡◌, ℕ, List, [], ◌∷◌, ◌++◌, refl, Some, None, pos, codes}
use Rattle.byte_code.specs.declared.instruction.Op.{Op}
use Rattle.byte_code.specs.declared.instruction.Op.TheVariants as i
use Rattle.byte_code.specs.declared.records.FunctionCode.{FunctionCode}
use Rattle.js_value.specs.Value.{Undefined, Null, String, Object}
use Rattle.js_value.specs.Store.{Thing, ScriptFunction}
use Rattle.es_ops.specs.Ledger.{Budget, Depth}
use Rattle.es_machine.specs.Frames.{Running}
use Rattle.es_machine.specs.ByteMachine.{steps}
use Rattle.es_machine.specs.Bodies.{outcome}
use Rattle.es_machine.proofs.Samples.{number, code_with, from_place, from_outer, frame_of, table_of, state_with, rows, run_frame, with_class, plain, Came, Gave, Threw, ThrewError, Halted, came, computing}

-- 22 is a function of this kind and code whose `prototype` is 13 and whose own prototype is 23, a base constructor of
-- function 2, which gives its `this`
things : List Thing
things = with_class (ScriptFunction 0 1 (Some 14) (18 ∷ [])) (Some 23) ((codes "prototype", plain (Object 13)) ∷ []) ∷ with_class (ScriptFunction 0 2 (Some 14) []) None ((codes "prototype", plain (Object 14)) ∷ []) ∷ []

body : List Op → FunctionCode
body ops = code_with 5 0 [] (ops ++ i.Return ∷ [])

base : FunctionCode
base = code_with 3 0 [] (i.This ∷ i.Return ∷ [])

-- with function 22 in place 8
outside : FunctionCode → List Op → Came
outside f ops = came (run_frame (body [] ∷ f ∷ base ∷ []) things (record (frame_of (body (i.LocalPut 8 ∷ ops))) { stack = Object 22 ∷ [] }))

called : (kind : ℕ) → List Op → Came
called kind ops = outside (code_with kind 2 [] (ops ++ i.Return ∷ [])) (i.Int (pos 4) ∷ i.LocalGet 8 ∷ i.Int (pos 5) ∷ i.Call 1 ∷ [])

constructed : (kind : ℕ) → List Op → Came
constructed kind ops = outside (code_with kind 2 [] (ops ++ i.Return ∷ [])) (i.LocalGet 8 ∷ i.Int (pos 5) ∷ i.New 1 ∷ [])

-- the receiver, an argument, one that is missing, a captured cell
calls : called 0 (i.This ∷ []) ∷ called 0 (i.LocalGet 0 ∷ []) ∷ called 0 (i.LocalCheck 1 ∷ i.LocalGet 1 ∷ []) ∷ called 0 (i.LocalCheck 2 ∷ i.True ∷ []) ∷ called 2 (i.OuterGet 0 ∷ []) ∷ called 3 (i.True ∷ []) ∷ called 4 (i.True ∷ []) ∷ called 0 (i.Int (pos 3) ∷ i.Throw ∷ []) ∷ []
    ≡ Gave (number 4) ∷ Gave (number 5) ∷ Gave Undefined ∷ ThrewError (codes "not initialised") ∷ Gave (number 5) ∷ ThrewError (codes "constructor called without new") ∷ ThrewError (codes "constructor called without new") ∷ Threw (number 3) ∷ []
unfolding computing called outside body base things
calls = refl

-- a base constructor's object is 24
constructions : constructed 0 (i.Null ∷ []) ∷ constructed 0 (i.LocalGet 0 ∷ []) ∷ constructed 3 (i.Object ∷ []) ∷ constructed 2 (i.Null ∷ []) ∷ constructed 1 (i.Null ∷ []) ∷ []
    ≡ Gave (Object 24) ∷ Gave (Object 24) ∷ Gave (Object 25) ∷ ThrewError (codes "not a constructor") ∷ ThrewError (codes "not a constructor") ∷ []
unfolding computing constructed outside body base things
constructions = refl

-- a derived constructor: its parent makes 24
derived : constructed 4 (i.SuperCall 0 ∷ i.BindThis ∷ i.Pop ∷ i.Undefined ∷ []) ∷ constructed 4 (i.SuperCall 0 ∷ []) ∷ constructed 4 (i.Undefined ∷ []) ∷ constructed 4 (i.Null ∷ []) ∷ constructed 4 (i.SuperCall 0 ∷ i.BindThis ∷ i.Pop ∷ i.Int (pos 1) ∷ []) ∷ constructed 4 (i.SuperCall 0 ∷ i.BindThis ∷ i.Pop ∷ i.SuperCall 0 ∷ i.BindThis ∷ []) ∷ constructed 4 (i.This ∷ []) ∷ constructed 6 [] ∷ []
    ≡ Gave (Object 24) ∷ Gave (Object 24) ∷ ThrewError (codes "not initialised") ∷ ThrewError (codes "constructor returned a primitive") ∷ ThrewError (codes "constructor returned a primitive") ∷ ThrewError (codes "super called twice") ∷ ThrewError (codes "not initialised") ∷ Gave (Object 24) ∷ []
unfolding computing constructed outside body base things
derived = refl

-- the handler of bytes 0 to 3 leads to 4; the other holds no throw of a return
handled : List Op → List ℕ → Came
handled ops handlers = outside (record (code_with 4 0 [] ops) { handlers = handlers }) (i.LocalGet 8 ∷ i.New 0 ∷ [])

handlers : handled (i.Int (pos 3) ∷ i.Throw ∷ i.Null ∷ i.Object ∷ i.Return ∷ []) (0 ∷ 0 ∷ 0 ∷ 3 ∷ 0 ∷ 4 ∷ []) ∷ handled (i.Int (pos 3) ∷ i.Throw ∷ i.Null ∷ i.Object ∷ i.Return ∷ []) (0 ∷ 3 ∷ 0 ∷ 4 ∷ 0 ∷ 4 ∷ []) ∷ handled (i.Null ∷ i.Return ∷ i.Object ∷ i.Return ∷ []) (0 ∷ 0 ∷ 0 ∷ 2 ∷ 0 ∷ 2 ∷ []) ∷ handled (i.ThrowMessage 1 ∷ i.Throw ∷ i.Object ∷ i.Return ∷ []) (0 ∷ 0 ∷ 0 ∷ 2 ∷ 0 ∷ 3 ∷ 0 ∷ 0 ∷ 0 ∷ 2 ∷ 0 ∷ 2 ∷ []) ∷ []
    ≡ Gave (Object 24) ∷ Threw (number 3) ∷ ThrewError (codes "constructor returned a primitive") ∷ Gave (Object 25) ∷ []
unfolding computing handled outside body base things
handlers = refl

-- a function that calls itself for ever: 20 units, at most 128 calls
recursion : outside (code_with 0 1 [] (i.Null ∷ i.LocalGet 0 ∷ i.LocalGet 0 ∷ i.Call 1 ∷ i.Return ∷ [])) (i.Null ∷ i.LocalGet 8 ∷ i.LocalGet 8 ∷ i.Call 1 ∷ []) ∷ []
    ≡ Halted Budget ∷ []
unfolding computing called outside body base things
recursion = refl

-- a call at depth 127 is the 128th, and one at depth 128 stops the run, after its unit was taken
deep : (depth : ℕ) → Came
deep depth = let table = table_of [] in let s = record (state_with table []) { depth = depth } in came (outcome s (steps table rows 200 (Running (frame_of (body (i.Null ∷ i.LocalGet 2 ∷ i.Call 0 ∷ []))) [] s)))

depths : deep 127 ∷ deep 128 ∷ [] ≡ Gave Null ∷ Halted Depth ∷ []
unfolding computing deep body
depths = refl

-- ---- functions and classes that are made, of function 1 with a cell of the place 5 and one of the outer cells

makes : (kind : ℕ) → List Op → Came
makes kind ops = came (run_frame (body [] ∷ code_with kind 1 (from_place 5 ∷ from_outer 2 ∷ []) (i.OuterGet 0 ∷ i.OuterGet 1 ∷ i.Binary 0 ∷ i.Return ∷ []) ∷ []) [] (frame_of (body ops)))

functions : makes 0 (i.Null ∷ i.Function 1 ∷ i.Call 0 ∷ []) ∷ makes 1 (i.Null ∷ i.Function 1 ∷ i.Call 0 ∷ []) ∷ makes 0 (i.Function 1 ∷ i.New 0 ∷ i.Typeof ∷ []) ∷ makes 1 (i.Function 1 ∷ i.New 0 ∷ []) ∷ []
    ≡ Gave (number 11) ∷ Gave (number 11) ∷ Gave (String (codes "object")) ∷ ThrewError (codes "not a constructor") ∷ []
unfolding computing makes body
functions = refl

methods : makes 2 (i.LocalGet 0 ∷ i.Text 2 ∷ i.Method 1 ∷ i.Define 0 ∷ i.Get 2 ∷ i.Typeof ∷ []) ∷ makes 2 (i.Null ∷ i.Text 2 ∷ i.Method 1 ∷ i.Pop ∷ i.Pop ∷ []) ∷ makes 2 (i.LocalGet 0 ∷ i.Text 2 ∷ i.Method 1 ∷ i.NameIt 1 ∷ i.Get 4 ∷ []) ∷ []
    ≡ Gave (String (codes "function")) ∷ ThrewError (codes "not an object") ∷ Gave (String (codes "get b")) ∷ []
unfolding computing makes body
methods = refl

-- the constructor under its prototype object: 22 and 23
classes : makes 3 (i.Class 1 ∷ []) ∷ makes 3 (i.Class 1 ∷ i.Pop ∷ []) ∷ makes 4 (i.LocalGet 0 ∷ i.ClassExtends 1 ∷ []) ∷ []
    ≡ Gave (Object 23) ∷ Gave (Object 22) ∷ ThrewError (codes "not a constructor") ∷ []
unfolding computing makes body
classes = refl

-- a class that extends function 22, whose `prototype` is 13: 24 and 25
extends : outside (code_with 3 0 [] (i.Null ∷ i.Return ∷ [])) (i.LocalGet 8 ∷ i.ClassExtends 2 ∷ i.Pop ∷ []) ∷ outside (code_with 3 0 [] (i.Null ∷ i.Return ∷ [])) (i.LocalGet 8 ∷ i.ClassExtends 2 ∷ i.Get 1 ∷ []) ∷ []
    ≡ Gave (Object 24) ∷ Gave (number 1) ∷ []
unfolding computing outside body base things
extends = refl
