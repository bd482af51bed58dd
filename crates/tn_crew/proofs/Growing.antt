-- A part grows by the entries of several events on it alone.
use Rattle.std.proofs.Common.{◌≡◌, ◌∙◌, ◌++◌, ℕ, [], List, None, append_assoc, append-nil, ap, refl, subst, sym}
use Rattle.std.proofs.lemmas.List.Elements.{All-append, All-nil}
use Rattle.tn_crew.specs.Tries.{GrewBy}
use Rattle.tn_stamp.specs.declared.entry.Entry.{Entry}
use Rattle.tn_stamp.specs.Pairs.{pair_of}
use Rattle.tn_stamped.specs.Placed.{PlacedView, entries_of}

-- nothing happened yet
pub grew_none : (n : ℕ) → (p : PlacedView) → GrewBy n p p
grew_none n p = record { stays = refl; grows = ([], sym (append-nil (entries_of p)), All-nil _) }

-- what happened first, and then more
pub grew_more : (n : ℕ) → (old mid new : PlacedView) → GrewBy n old mid → GrewBy n mid new → GrewBy n old new
grew_more n old mid new a b =
    let es = a.grows.0 in
    let fs = b.grows.0 in record {
      stays = b.stays ∙ a.stays;
      grows = (
        es ++ fs,
        b.grows.1 ∙ (ap (λ (xs : List Entry). xs ++ fs) a.grows.1 ∙ append_assoc (entries_of old) es fs),
        All-append (λ e. pair_of n e.event ≡ None) es fs a.grows.2 b.grows.2,
      );
    }
