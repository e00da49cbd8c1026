-- The host module: what a run asks of the outside, and how a line is written. Own rules.
use Rattle.std.specs.Prelude.{ℕ, zero, suc, List, [], ◌∷◌, ◌++◌, length, drop, map}
use Rattle.js_value.specs.Text.{piece, utf8}
use Rattle.js_value.specs.Value.{Text}
use Rattle.es_ops.specs.State.{TraceEvent, Wrote, Took}

-- the bytes that a trace has written
abbrev pub written : List TraceEvent → List ℕ
written [] = []
written (Wrote bytes ∷ events) = bytes ++ written events
written (Took line ∷ events) = written events

-- A text cut into pieces of whole characters, each as long as 64 bytes allow. A piece has a unit at
-- least, so that a text has no more pieces than units.
unfoldable pub cut : (most : ℕ) → Text → List Text
cut zero text = []
cut (suc n) [] = []
cut (suc n) (unit ∷ units) = piece (unit ∷ units) ∷ cut n (drop (length (piece (unit ∷ units))) (unit ∷ units))

abbrev pub pieces : Text → List Text
pieces text = cut (length text) text

abbrev pub line_feed : ℕ
line_feed = 10

abbrev pub write : Text → TraceEvent
write text = Wrote (utf8 text)

-- what is written for a line of this text, one event for each piece
abbrev pub line_events : Text → List TraceEvent
line_events text = map write (pieces (text ++ line_feed ∷ []))
