-- What is written.
use Rattle.std.specs.Prelude.{ℕ, ◌+◌, ◌==◌, List, [], ◌++◌, ◌∷◌, codes, decimal, if◌then◌else◌}
use Rattle.tn_letters.specs.Law.{dropped_in}
use Rattle.tn_base.specs.declared.event.Outcome.{Outcome}
use Rattle.tn_base.specs.declared.event.Trap.{Trap}
use Rattle.tn_base.specs.declared.event.Trap.TheVariants.{BadInstr, BadFetch, Misaligned, BadAddress, BadCsr, BadDest, SendBusy, RecvEmpty, BadFree, Environment, BadPin, BadLocalKey}
use Rattle.tn_base.specs.declared.shape.ShapeNumbers.{ShapeNumbers}
use Rattle.tn_base.specs.Address.{in_tile}
use Rattle.tn_rows.specs.PartView.{PartView, TileV, RouterV, LinkV, HostV, DetectorV, AbsentV}
use Rattle.tn_rows.specs.WorldView.{WorldView}
use Rattle.tn_text.specs.Hex.{hex_word_text}
use Rattle.tn_trace.specs.Host.{hosts_text}
use Rattle.tn_thread.specs.declared.state.ThreadState.{ThreadState}
use Rattle.tn_thread.specs.declared.state.ThreadState.TheVariants as state
use Rattle.tn_thread.specs.declared.thread.Thread.{Thread}

abbrev pub trap_text : Trap → List ℕ
trap_text BadInstr = codes "BadInstr"
trap_text BadFetch = codes "BadFetch"
trap_text Misaligned = codes "Misaligned"
trap_text BadAddress = codes "BadAddress"
trap_text BadCsr = codes "BadCsr"
trap_text BadDest = codes "BadDest"
trap_text SendBusy = codes "SendBusy"
trap_text RecvEmpty = codes "RecvEmpty"
trap_text BadFree = codes "BadFree"
trap_text Environment = codes "Environment"
trap_text BadPin = codes "BadPin"
trap_text BadLocalKey = codes "BadLocalKey"

-- `exit THREAD VALUE` of a thread that ended
abbrev pub exit_text : ℕ → ThreadState → List ℕ
exit_text address state.Run = []
exit_text address (state.Wait waits) = []
exit_text address (state.Idle vote) = []
exit_text address (state.Answered value) = []
exit_text address (state.Dead value) = codes "exit " ++ decimal address ++ codes " " ++ decimal value ++ codes "\n"
exit_text address (state.Trapped trap) = []

-- those of the threads of a tile from a place on
abbrev pub exits_from : ShapeNumbers → ℕ → ℕ → List Thread → List ℕ
exits_from n tile place [] = []
exits_from n tile place (t ∷ ts) = exit_text (in_tile n tile place) t.state ++ exits_from n tile (place + 1) ts

abbrev pub part_exits : PartView → List ℕ
part_exits (TileV v) = exits_from v.plan.shape v.plan.tile 0 v.now.threads
part_exits (RouterV v) = []
part_exits (LinkV v) = []
part_exits (HostV s) = []
part_exits (DetectorV v) = []
part_exits AbsentV = []

-- those of all threads, by address
abbrev pub exits_text : List PartView → List ℕ
exits_text [] = []
exits_text (p ∷ ps) = part_exits p ++ exits_text ps

-- `dropped N`, where any letters were dropped since their receivers were dead
abbrev pub dropped_text : ℕ → List ℕ
dropped_text count = if count == 0 then [] else codes "dropped " ++ decimal count ++ codes "\n"

-- the line that tells the outcome
abbrev pub outcome_text : Outcome → List ℕ
outcome_text Outcome.Done = codes "done\n"
outcome_text (Outcome.Trapped thread trap) = codes "trap " ++ decimal thread.0 ++ codes " " ++ trap_text trap ++ codes "\n"
outcome_text (Outcome.BadKey key) = codes "badkey " ++ hex_word_text key ++ codes "\n"
outcome_text (Outcome.Spent thread) = codes "spent " ++ decimal thread.0 ++ codes "\n"
outcome_text Outcome.Jammed = codes "jammed\n"

-- the letters that a part took as the host
abbrev pub part_hosts : PartView → List ℕ
part_hosts (TileV v) = []
part_hosts (RouterV v) = []
part_hosts (LinkV v) = []
part_hosts (HostV s) = hosts_text s.got
part_hosts (DetectorV v) = []
part_hosts AbsentV = []

-- those that the host took, in the order taken
abbrev pub taken_text : List PartView → List ℕ
taken_text [] = []
taken_text (p ∷ ps) = part_hosts p ++ taken_text ps

-- the report of a run that ended so with this machine
abbrev pub report_text : WorldView → Outcome → List ℕ
report_text end outcome = taken_text end.parts ++ exits_text end.parts ++ dropped_text (dropped_in end) ++ outcome_text outcome
