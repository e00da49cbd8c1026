-- What `print` writes are the events of a line.
use Rattle.std.proofs.Common.{◌≡◌, ℕ, List, [], ◌∷◌, ◌++◌, map, refl, sym, ap, ◌∙◌, subst, append_assoc, append-nil, Some}
use Rattle.js_value.specs.Text.{utf8}
use Rattle.js_value.specs.Value.{Value, Undefined, String, Text}
use Rattle.es_ops.specs.State.{State, TraceEvent, Wrote}
use Rattle.es_ops.specs.Events.{reply, perform}
use Rattle.es_ops.specs.Act.{Act, Calls, run}
use Rattle.es_ops.specs.Conversions.{text_expected}
use Rattle.es_ops.specs.Host.{write, pieces, line_feed, line_events}
use Rattle.es_ops.specs.HostCalls.{with_host, write_all, print}

-- a state with more behind its trace
abbrev pub wrote : State → List TraceEvent → State
wrote s events = record s { world = record s.world { trace = s.world.trace ++ events } }

write_all_runs : (c : Calls) (bytes : List (List ℕ)) (k : Act) (s : State) → run c (write_all bytes k) s ≡ run c k (wrote s (map Wrote bytes))
unfolding run perform
write_all_runs c [] k s = ap (λ trace. run c k (record s { world = record s.world { trace = trace } })) (sym (append-nil s.world.trace))
write_all_runs c (b ∷ bs) k s =
    write_all_runs c bs k (wrote s (Wrote b ∷ []))
    ∙ ap (λ trace. run c k (record s { world = record s.world { trace = trace } })) (append_assoc s.world.trace (Wrote b ∷ []) (map Wrote bs))

events_of_pieces : (texts : List Text) → map Wrote (map utf8 texts) ≡ map write texts
events_of_pieces [] = refl
events_of_pieces (t ∷ ts) = ap (λ events. write t ∷ events) (events_of_pieces ts)

pub print_writes : (c : Calls) (t : Text) (k : Value → Act) (s : State) (input : List ℕ) → s.world.input ≡ Some input → run c (print (String t) k) s ≡ run c (k Undefined) (wrote s (line_events t))
unfolding run print reply text_expected
print_writes c t k s input e =
    subst (λ host. run c (with_host host (λ input. write_all (map utf8 (pieces (t ++ line_feed ∷ []))) (k Undefined))) s ≡ run c (k Undefined) (wrote s (line_events t))) (sym e)
    (write_all_runs c (map utf8 (pieces (t ++ line_feed ∷ []))) (k Undefined) s
    ∙ ap (λ events. run c (k Undefined) (wrote s events)) (events_of_pieces (pieces (t ++ line_feed ∷ []))))
