-- What the frames 39h, 43h, 52h and D6h ask, and the frame that is answered behind the 06h.
use Rattle.std.specs.Prelude.{ℕ, List, [], ◌∷◌, ◌++◌}
use Rattle.frame.specs.Ground.{Test, both, test}
use Rattle.frame.specs.Build.{Built, frame}
use Rattle.calendar.specs.Clock.{clock_text}
use Rattle.calendar.specs.DateChange.{table_text}
use Rattle.printer.specs.Counter.{counter_text}
use Rattle.printer.specs.Jet.{Jet, has_message, message, has_parameters, parameters, jet_of}
use Rattle.printer.specs.State.{Printer}
use Rattle.printer.specs.Order.{Order, tell, on_printer, jet_in}
use Rattle.printer.specs.Answer.{Tells}
use Rattle.printer.specs.declared.request.Request.{Request}
use Rattle.printer.specs.declared.request.Request.TheVariants.{Counter, Message}

-- 01, Numbers: 11 "no parameters" for 39h, "either missing" for 43h.
abbrev pub request_tests : Request → Jet → List Test
request_tests Counter j = test (has_parameters j) 11 ∷ []
request_tests Message j = test (both (has_message j) (has_parameters j)) 11 ∷ []

-- 01, On the wire: 39h answers "frame 39h: 9 digits, 3 batch bytes", 43h "frame 43h: 37 bytes, content (no jet number)".
abbrev pub requested : Request → Jet → List ℕ
requested Counter j = frame 0x39 (counter_text j.counter)
requested Message j = frame 0x43 (parameters j ++ message j)

-- 01, Numbers: 8 "jet not on this printer" comes before what is asked of the jet.
abbrev pub request_order : Request → Printer → List ℕ → Order
request_order what p d = tell (test (on_printer p d) 8 ∷ request_tests what (jet_in p d)) p (requested what (jet_in p d))

unfoldable pub ask_counter : Printer → List ℕ → Order
ask_counter p d = request_order Counter p d

unfoldable pub ask_message : Printer → List ℕ → Order
ask_message p d = request_order Message p d

-- 01, On the wire: 52h answers "frame 52h, 258 bytes", D6h "frame 9Ch, 22 bytes". 02, Wish 5: "52h answers HHMM; D6h stays the calendar."
unfoldable pub ask_table : Printer → Order
ask_table p = tell [] p (frame 0x52 (table_text p.date_change))

unfoldable pub ask_clock : Printer → Order
ask_clock p = tell [] p (frame 0x9C (clock_text p.clock))

-- What is told of a jet's bytes.
abbrev pub TellsJet : Request → List ℕ → List ℕ → Built → List ℕ → Type 0
TellsJet what b before r after = Tells (request_tests what (jet_of b)) (requested what (jet_of b)) before r after
