-- Where the option may be among the words.
use Rattle.std.proofs.Common.{◌≡◌, ◌∙◌, List, [], ◌∷◌, ◌++◌, codes, refl, ap, Some, None, option_map}
use Rattle.tn_words.specs.Forms.{Text, parted, with_other}
use Rattle.tn_words.specs.Laws.{NoOption, parts}
use Rattle.tn_words.proofs.Splits.{other_first}

pub apart : (front back : List Text) (value : Text) → NoOption front → parted (front ++ codes "--workers" ∷ value ∷ back) ≡ parts (Some value) (front ++ back)
apart [] back value h = refl
apart (w ∷ front) back value h = other_first w (front ++ codes "--workers" ∷ value ∷ back) h.0 h.1 ∙ ap (option_map (with_other w)) (apart front back value h.2)

pub joined : (front back : List Text) (value : Text) → NoOption front → parted (front ++ (codes "--workers=" ++ value) ∷ back) ≡ parts (Some value) (front ++ back)
joined [] back value h = refl
joined (w ∷ front) back value h = other_first w (front ++ (codes "--workers=" ++ value) ∷ back) h.0 h.1 ∙ ap (option_map (with_other w)) (joined front back value h.2)

pub left_out : (words : List Text) → NoOption words → parted words ≡ parts None words
left_out [] h = refl
left_out (w ∷ words) h = other_first w words h.0 h.1 ∙ ap (option_map (with_other w)) (left_out words h.2)

pub lone : (front : List Text) → NoOption front → parted (front ++ codes "--workers" ∷ []) ≡ None
lone [] h = refl
lone (w ∷ front) h = other_first w (front ++ codes "--workers" ∷ []) h.0 h.1 ∙ ap (option_map (with_other w)) (lone front h.2)
