-- What one line of a graph says, by its words.
use Rattle.std.specs.Prelude.{ℕ, ◌&&◌, nat_le, Bool, true, false, List, [], ◌∷◌, if◌then◌else◌, codes, bytes_eq, slice_index}
use Rattle.std.specs.declared.result.Result.{Result}
use Rattle.std.specs.declared.result.Result.TheVariants.{Ok, Err}
use Rattle.tn_text.specs.declared.numbers.Numeral.{Numeral}
use Rattle.tn_text.specs.declared.numbers.Numeral.TheVariants.{Value, TooLarge, NoNumber}
use Rattle.tn_text.specs.Names.{is_name}
use Rattle.tn_text.specs.Numbers.{number_of}
use Rattle.tn_text.specs.NumberLists.{numbers_in, word_values_of}
use Rattle.tn_text.specs.Words.{words_of}
use Rattle.graph_text.specs.declared.graph.GraphKind.{GraphKind}
use Rattle.graph_text.specs.declared.graph.GraphKind.TheVariants.{BadLine, BadNumber}
use Rattle.graph_text.specs.declared.line.GraphLine.{GraphLine}
use Rattle.graph_text.specs.declared.line.GraphLine.TheVariants.{Kind, Vertex, Edge}
use Rattle.graph_text.specs.declared.line.Head.{Head}

-- the numbers of a line, if the rest of it has its form. No number, or another form, is worse than a number that is too large
abbrev pub given : {V : Type 0} → Bool → Numeral V → Result V GraphKind
given true (Value v) = Ok v
given true TooLarge = Err BadNumber
given true NoNumber = Err BadLine
given false numbers = Err BadLine

infixl 10 ◌>>=◌
abbrev pub ◌>>=◌ : {A B : Type 0} → Result A GraphKind → (A → Result B GraphKind) → Result B GraphKind
(Ok x) >>= f = f x
(Err kind) >>= f = Err kind

abbrev pub within : ℕ → ℕ → ℕ → Bool
within least most n = nat_le least n && nat_le n most

-- `graph FLITS PER`, with 1 to 8 flits and 1 to 64 devices per thread

abbrev pub head_with : ℕ → ℕ → Result Head GraphKind
head_with flits per = if within 1 8 flits && within 1 64 per then Ok (record { flits = flits; per_thread = per }) else Err BadNumber

abbrev pub head_line : List (List ℕ) → Result Head GraphKind
head_line [] = Err BadLine
head_line (word ∷ words) =
    given (bytes_eq word (codes "graph")) (numbers_in 2 words) >>= λ ns. head_with (slice_index ns 0) (slice_index ns 1)

-- `kind NAME PINS WORDS`, with 0 to 4 pins and 1 to 16 words

abbrev pub kind_with : List ℕ → ℕ → ℕ → Result GraphLine GraphKind
kind_with name pins words =
    if nat_le pins 4 && within 1 16 words then Ok (Kind (record { name = name; pins = pins; words = words })) else Err BadNumber

abbrev pub kind_line : List (List ℕ) → Result GraphLine GraphKind
kind_line [] = Err BadLine
kind_line (name ∷ words) =
    given (is_name name) (numbers_in 2 words) >>= λ ns. kind_with name (slice_index ns 0) (slice_index ns 1)

-- `vertex NAME KIND WORD ..`

abbrev pub vertex_line : List (List ℕ) → Result GraphLine GraphKind
vertex_line [] = Err BadLine
vertex_line (name ∷ []) = Err BadLine
vertex_line (name ∷ kind ∷ words) =
    given (is_name name && is_name kind) (word_values_of words) >>= λ ws. Ok (Vertex (record { name = name; kind = kind; words = ws }))

-- `edge NAME PIN NAME` and a value, which may be left out and is then 0

abbrev pub value_in : List (List ℕ) → Numeral ℕ
value_in [] = Value 0
value_in (value ∷ []) = number_of value
value_in _ = NoNumber

abbrev pub pair_of : Numeral ℕ → Numeral ℕ → Numeral (ℕ × ℕ)
pair_of NoNumber second = NoNumber
pair_of (Value a) (Value b) = Value (a, b)
pair_of (Value a) TooLarge = TooLarge
pair_of (Value a) NoNumber = NoNumber
pair_of TooLarge (Value b) = TooLarge
pair_of TooLarge TooLarge = TooLarge
pair_of TooLarge NoNumber = NoNumber

abbrev pub edge_line : List (List ℕ) → Result GraphLine GraphKind
edge_line (from ∷ pin ∷ to ∷ value) =
    given (is_name from && is_name to) (pair_of (number_of pin) (value_in value)) >>= λ ns.
    Ok (Edge (record { from = from; pin = ns.0; to = to; value = ns.1 }))
edge_line _ = Err BadLine

-- the first word says what a line is
abbrev pub graph_line : List (List ℕ) → Result GraphLine GraphKind
graph_line [] = Err BadLine
graph_line (word ∷ words) =
    if bytes_eq word (codes "kind") then kind_line words
    else (if bytes_eq word (codes "vertex") then vertex_line words
    else (if bytes_eq word (codes "edge") then edge_line words
    else Err BadLine))

abbrev pub content_line : List ℕ → Result GraphLine GraphKind
content_line content = graph_line (words_of content)
