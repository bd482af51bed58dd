-- Where the option may be among the words.
use Rattle.std.specs.Prelude.{◌≡◌, List, [], ◌∷◌, ◌++◌, false, codes, Option, Some, None, bytes_eq}
use Rattle.tn_words.specs.Forms.{Parted, Text, attached, parted}

-- no word is the option, in either spelling
abbrev pub NoOption : List Text → Type 0
NoOption [] = Unit {0}
NoOption (word ∷ words) = (attached word ≡ None) × (bytes_eq word (codes "--workers") ≡ false) × NoOption words

abbrev pub parts : Option Text → List Text → Option Parted
parts value others = Some (record { value = value; others = others })

-- before, between or after the other words
abbrev pub Apart : Type 0
Apart = (front back : List Text) (value : Text) → NoOption front → parted (front ++ codes "--workers" ∷ value ∷ back) ≡ parts (Some value) (front ++ back)

abbrev pub Joined : Type 0
Joined = (front back : List Text) (value : Text) → NoOption front → parted (front ++ (codes "--workers=" ++ value) ∷ back) ≡ parts (Some value) (front ++ back)

abbrev pub LeftOut : Type 0
LeftOut = (words : List Text) → NoOption words → parted words ≡ parts None words

-- without its number
abbrev pub Lone : Type 0
Lone = (front : List Text) → NoOption front → parted (front ++ codes "--workers" ∷ []) ≡ None
