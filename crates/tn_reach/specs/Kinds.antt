-- The kinds of faults that one record shows.
use Rattle.std.specs.Prelude.{Bool, List}
use Rattle.tn_base.specs.declared.ids.Board.{Board}
use Rattle.tn_base.specs.declared.shape.ShapeNumbers.{ShapeNumbers}
use Rattle.tn_keys.specs.declared.record.RouteRec.{RouteRec}
use Rattle.tn_keys.specs.Accepted.{bad_range, bad_thread, empty_mask, off_machine}
use Rattle.tn_keys.specs.Tables.{Table}
use Rattle.tn_reach.specs.declared.kinds.Kind.{Kind}
use Rattle.tn_reach.specs.declared.kinds.Kind.TheVariants.{OffMachine, BadThread, EmptyMask, KeyRange}

abbrev pub shows : Kind → ShapeNumbers → List Table → Board → RouteRec → Bool
shows OffMachine n tables b r = off_machine n b r
shows BadThread n tables b r = bad_thread n r
shows EmptyMask n tables b r = empty_mask r
shows KeyRange n tables b r = bad_range n tables b r
