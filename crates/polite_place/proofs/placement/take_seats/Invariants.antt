use Rattle.std.proofs.Common.{◌≡◌, ◌<◌, ℕ, get_or, length}
use Rattle.polite_place.specs.Seats.{seat, seat_at}
use Rattle.polite_place.proofs.placement.take_seats.Given as goal

abbrev pub invariant-loop-place : goal.invariant-loop-place
invariant-loop-place l = record {
  seats : (k : ℕ) → k < l.place → get_or l.seats (get_or l.order k 0) (seat 0 0) ≡ seat_at l.shape l.share k;
  room : length l.seats ≡ length l.fn.seats;
}
