-- After an announcement of 2 each letter that stands on the machine is for the host.
use Rattle.std.proofs.Common.{ℕ, ◌≡◌, ◌==◌, ◌∙◌, not, cond, Bool, true, false, List, [], ◌∷◌, refl, sym, arith}
use Rattle.std.specs.List.{AllByRecursion}
use Rattle.std.proofs.lemmas.Bool.{eqb-true}
use Rattle.tn_base.specs.declared.event.Event.{Event}
use Rattle.tn_base.specs.declared.message.Letter.{Letter}
use Rattle.tn_letters.specs.Letters.{Takes, host_address}
use Rattle.tn_letters.specs.Standing.{standing_letters}
use Rattle.tn_rows.specs.WorldView.{WorldView}
use Rattle.polite_edges.specs.Deeds.{value_of}
use Rattle.polite_edges.specs.Histories.{history_deeds}
use Rattle.polite_edges.specs.Layout.{Layout}
use Rattle.polite_live.specs.Live.{IsForHost, NoLettersComeAfterTwo}
use Rattle.polite_live.proofs.Letters.{for_threads, for_threads-cons, is_for_thread, one}
use Rattle.polite_live.proofs.Runs.{AtEnd, at_end}

not_one : (b : Bool) → (let x : ℕ = cond (not b) 1 0 in x) ≡ 0 → b ≡ true
not_one true e = refl
not_one false e = absurd (omega arith)

pub none_is_host : (l : Letter) → one l ≡ 0 → l.receiver ≡ host_address
none_is_host l e = eqb-true l.receiver host_address (not_one (l.receiver == host_address) e)

all_for_host : (ls : List Letter) → for_threads ls ≡ 0 → AllByRecursion IsForHost ls
all_for_host [] z = tt
all_for_host (l ∷ ls) z = let c = for_threads-cons l ls in (none_is_host l (omega arith), all_for_host ls (omega arith))

-- no letter that stands at the end is for a thread
pub end_quiet : (g : Layout) (start end : WorldView) (history : List Event) → AtEnd g start end history → value_of (history_deeds start history) ≡ 2 → for_threads (standing_letters end) ≡ 0
end_quiet g start end history e two = sym (e.bag.shows.flight.each is_for_thread) ∙ e.ends.echo.kept.quiet two

-- a letter that stands at the end is for the host
pub end_takes : (g : Layout) (start end : WorldView) (history : List Event) (l : Letter) (rest : List Letter) → AtEnd g start end history → value_of (history_deeds start history) ≡ 2 → Takes (standing_letters end) l rest → l.receiver ≡ host_address
end_takes g start end history l rest e two takes =
    let a = takes.each is_for_thread in
    let b = for_threads-cons l rest in
    let c = end_quiet g start end history e two in
    none_is_host l (omega arith)

pub no_letters_come : NoLettersComeAfterTwo
no_letters_come g start end history h two = all_for_host (standing_letters end) (end_quiet g start end history (at_end g start end history h) two)
