-- What is printed is read again as the same events.
use Rattle.std.proofs.Common.{◌≡◌, ◌∙◌, Option, Some, ℕ, ◌+◌, ◌^◌, ◌<◌, true, List, [], ◌∷◌, ◌++◌, codes, length, take, flat_map, refl, ap, sym, get_or, append_assoc, append-nil, arith, take_all, ◌≤◌, subst}
use Rattle.std.specs.declared.result.Result.{Result}
use Rattle.std.specs.declared.result.Result.TheVariants.{Ok}
use Rattle.std.specs.Fmt.{decimal}
use Rattle.std.specs.List.{list_all}
use Rattle.std.proofs.lemmas.List.{take_more}
use Rattle.tn_base.specs.declared.event.Event.{Event}
use Rattle.tn_base.specs.declared.event.Event.TheVariants.{Turn, Deliver, Depart, Arrive, Route, HostPut, HostTake, Report, Begin, Confirm, Announce, Release, Go}
use Rattle.tn_text.specs.Lines.{feed, lines_of}
use Rattle.tn_text.specs.Numbers.{decimal_of}
use Rattle.tn_text.specs.Words.{is_some_text}
use Rattle.tn_text.specs.declared.numbers.Numeral.TheVariants.{Value}
use Rattle.tn_text.specs.declared.stop.Fault.{Fault}
use Rattle.tn_trace.specs.declared.read.TraceKind.{TraceKind}
use Rattle.tn_trace.specs.declared.read.TraceKind.TheVariants.{BadLine}
use Rattle.tn_text.specs.Words.{spaced}
use Rattle.tn_trace.specs.Events.{AreEvents, IsEvent, alone, event_text, events_text, with_one, with_two}
use Rattle.tn_trace.specs.Reading.{event_line, events_of, text_line, words_say}
use Rattle.tn_text.specs.Reading.{line_says, said_before}
use Rattle.tn_text.proofs.Says.{line_said}
use Rattle.tn_text.proofs.Clean.{AreWords, IsWord, clean, content_line_is, line_of_words, lines_of-line, plain_line, spaced_one, spaced_two, words_of-line}
use Rattle.tn_text.proofs.PrintedWords.{decimal_of_decimal, decimal_word}

-- Lines.

-- the line that says an event, which its printed form is
pub record Says (e : Event) : Type 0 where
  pub content : List ℕ
  pub text : event_text e ≡ content ++ feed
  pub first : (rest : List ℕ) → lines_of (content ++ 10 ∷ rest) ≡ content ∷ lines_of rest
  pub says : line_says BadLine event_line content ≡ Ok (Some e)

some_front : (w rest : List ℕ) → is_some_text w ≡ true → 0 < length (w ++ rest)
some_front [] rest h = cc
some_front (b ∷ bs) rest h = omega arith

line_is : (e : Event) (w : List ℕ) (ws : List (List ℕ)) → IsWord w → AreWords ws → words_say (w ∷ ws) ≡ Ok e
    → line_says BadLine event_line (w ++ flat_map spaced ws) ≡ Ok (Some e)
line_is e w ws h hs made =
    let line = w ++ flat_map spaced ws in
    let l = line_of_words w ws h hs in
    line_said BadLine event_line line line e (plain_line line l) (sym (content_line_is line l)) (some_front w (flat_map spaced ws) h.some)
    (ap words_say (words_of-line w ws h hs) ∙ made)

says_by : (e : Event) (w : List ℕ) (ws : List (List ℕ)) → IsWord w → AreWords ws → event_text e ≡ (w ++ flat_map spaced ws) ++ feed → words_say (w ∷ ws) ≡ Ok e → Says e
says_by e w ws h hs text made = record {
  content = w ++ flat_map spaced ws;
  text = text;
  first = λ rest. lines_of-line (w ++ flat_map spaced ws) rest (line_of_words w ws h hs).bytes;
  says = line_is e w ws h hs made;
}

one_is : (w a : List ℕ) → w ++ spaced a ++ feed ≡ (w ++ flat_map spaced (a ∷ [])) ++ feed
one_is w a = ap (λ (xs : List ℕ). xs ++ feed) (spaced_one w a)

two_is : (w a b : List ℕ) → w ++ spaced a ++ spaced b ++ feed ≡ (w ++ flat_map spaced (a ∷ b ∷ [])) ++ feed
two_is w a b = ap (λ (xs : List ℕ). xs ++ feed) (spaced_two w a b)

none_is : (w : List ℕ) → w ++ feed ≡ (w ++ flat_map spaced []) ++ feed
none_is w = ap (λ (xs : List ℕ). xs ++ feed) (sym (append-nil w))

says_two : (e : Event) (w : List ℕ) (a b : ℕ) → IsWord w → a < 2 ^ 32 → b < 2 ^ 32 → event_text e ≡ with_two w a b
    → (decimal_of (decimal a) ≡ Value a → decimal_of (decimal b) ≡ Value b → words_say (w ∷ decimal a ∷ decimal b ∷ []) ≡ Ok e) → Says e
says_two e w a b h f g text made =
    says_by e w (decimal a ∷ decimal b ∷ []) h (decimal_word a f, (decimal_word b g, tt)) (text ∙ two_is w (decimal a) (decimal b)) (made (decimal_of_decimal a f) (decimal_of_decimal b g))

says_one : (e : Event) (w : List ℕ) (a : ℕ) → IsWord w → a < 2 ^ 32 → event_text e ≡ with_one w a
    → (decimal_of (decimal a) ≡ Value a → words_say (w ∷ decimal a ∷ []) ≡ Ok e) → Says e
says_one e w a h f text made = says_by e w (decimal a ∷ []) h (decimal_word a f, tt) (text ∙ one_is w (decimal a)) (made (decimal_of_decimal a f))

says_alone : (e : Event) (w : List ℕ) → IsWord w → event_text e ≡ alone w → words_say (w ∷ []) ≡ Ok e → Says e
says_alone e w h text made = says_by e w [] h tt (text ∙ none_is w) made

plain_word : (w : List ℕ) → list_all clean w ≡ true → is_some_text w ≡ true → IsWord w
plain_word w h s = record { bytes = h; some = s }

pub says : (e : Event) → IsEvent e → Says e
says (Turn t n) h = says_two (Turn t n) (codes "turn") t.0 n (plain_word (codes "turn") refl refl) h.0 h.1 refl (λ a b. rw (a, b) refl)
says (Deliver t) h = says_one (Deliver t) (codes "deliver") t.0 (plain_word (codes "deliver") refl refl) h refl (λ a. rw a refl)
says (Depart p l) h = says_two (Depart p l) (codes "depart") p.0 l.0 (plain_word (codes "depart") refl refl) h.0 h.1 refl (λ a b. rw (a, b) refl)
says (Arrive l p) h = says_two (Arrive l p) (codes "arrive") l.0 p.0 (plain_word (codes "arrive") refl refl) h.0 h.1 refl (λ a b. rw (a, b) refl)
says (Route r) h = says_one (Route r) (codes "route") r.0 (plain_word (codes "route") refl refl) h refl (λ a. rw a refl)
says HostPut h = says_alone HostPut (codes "hostput") (plain_word (codes "hostput") refl refl) refl refl
says HostTake h = says_alone HostTake (codes "hosttake") (plain_word (codes "hosttake") refl refl) refl refl
says (Report p) h = says_one (Report p) (codes "report") p.0 (plain_word (codes "report") refl refl) h refl (λ a. rw a refl)
says Begin h = says_alone Begin (codes "begin") (plain_word (codes "begin") refl refl) refl refl
says (Confirm p) h = says_one (Confirm p) (codes "confirm") p.0 (plain_word (codes "confirm") refl refl) h refl (λ a. rw a refl)
says Announce h = says_alone Announce (codes "announce") (plain_word (codes "announce") refl refl) refl refl
says (Release p) h = says_one (Release p) (codes "release") p.0 (plain_word (codes "release") refl refl) h refl (λ a. rw a refl)
says (Go p) h = says_one (Go p) (codes "go") p.0 (plain_word (codes "go") refl refl) h refl (λ a. rw a refl)

-- Texts.

-- what is printed is read again, wherever it begins
pub read_back : (events : List Event) (first : ℕ) → AreEvents events → events_of first (lines_of (events_text events)) ≡ Ok events
read_back [] first h = refl
read_back (e ∷ es) first h =
    let s = says e h.0 in
    let rest = events_text es in
    let lines : lines_of (event_text e ++ rest) ≡ s.content ∷ lines_of rest = ap (λ (xs : List ℕ). lines_of (xs ++ rest)) s.text ∙ (ap lines_of (append_assoc s.content feed rest) ∙ s.first rest) in
    let more = read_back es (first + 1) h.1 in
    let here : said_before first (text_line first s.content) (events_of (first + 1) (lines_of rest)) ≡ Ok (e ∷ es) =
    ap (λ (said : Result (Option Event) TraceKind). said_before first said (events_of (first + 1) (lines_of rest))) s.says ∙ ap (said_before {K = TraceKind} first (Ok (Some e))) more in
    ap (events_of first) lines ∙ here

-- so no two lists of events are printed alike
pub printed_once : (others events : List Event) → AreEvents others → AreEvents events → events_text others ≡ events_text events → others ≡ events
printed_once others events h k e =
    let a = read_back others 0 h in
    let b = read_back events 0 k in
    let r : Result (List Event) (Fault TraceKind) = Ok others in
    let t : Result (List Event) (Fault TraceKind) = Ok events in
    let same : r ≡ t = sym a ∙ (ap (λ (xs : List ℕ). events_of 0 (lines_of xs)) e ∙ b) in
    cc

are-append : (events : List Event) (e : Event) → AreEvents events → IsEvent e → AreEvents (events ++ e ∷ [])
are-append [] e h k = (k, tt)
are-append (x ∷ xs) e h k = (h.0, are-append xs e h.1 k)

pub are_more : (events : List Event) (i : ℕ) (d : Event) → i < length events → AreEvents (take i events) → IsEvent (get_or events i d) → AreEvents (take (i + 1) events)
are_more events i d h old new = rw (take_more events i d h) (are-append (take i events) (get_or events i d) old new)

pub are_all : (events : List Event) (i : ℕ) → length events ≤ i → AreEvents (take i events) → AreEvents events
are_all events i h old = subst AreEvents (take_all i events h) old
