-- Laws of the table alone, for callers.
use Rattle.std.specs.Prelude.{◌≤◌, List, length, None, ◌≡◌}
use Rattle.polite_switch.specs.declared.action.SwitchView.{SwitchView}
use Rattle.polite_switch.specs.declared.device.InEdge.{InEdge}
use Rattle.polite_switch.specs.declared.row.Row.{Row}
use Rattle.polite_switch.specs.Device.{AllAligned, AllNamed}
use Rattle.polite_switch.specs.DeviceModel.{DeviceModel}
use Rattle.polite_switch.specs.Kept.{IsKept, RowHolds}
use Rattle.polite_switch.specs.SwitchModel.{SwitchModel}
use Rattle.polite_switch.specs.Table.{Dispatched, acted, dispatched, done, fault_of, fresh_switch, row_of, taken}

-- a dispatch by a row, whatever the row
abbrev pub by_row : Row → SwitchView → SwitchModel → Dispatched
by_row r v s = acted (done r v (taken v s)) (taken v s)

-- the row that is chosen holds
abbrev pub EachRowHolds : Type 0
EachRowHolds = (v : SwitchView) (s : SwitchModel) → RowHolds (row_of v s) v s

-- a dispatch without a fault does the row that is chosen
abbrev pub DoesItsRow : Type 0
DoesItsRow = (v : SwitchView) (s : SwitchModel) → fault_of v s ≡ None → dispatched v s ≡ by_row (row_of v (taken v s)) v s

-- a softswitch is at its start as each one is, and stays so by each dispatch and by each row that holds
abbrev pub StartsKept : Type 0
StartsKept = (devices : List DeviceModel) (in_edges : List (List InEdge)) → length devices ≤ 64 → AllAligned devices → AllNamed (length devices) in_edges → IsKept (fresh_switch devices in_edges)

abbrev pub DispatchesKeep : Type 0
DispatchesKeep = (v : SwitchView) (s : SwitchModel) → IsKept s → IsKept (dispatched v s).switch

abbrev pub RowsKeep : Type 0
RowsKeep = (r : Row) (v : SwitchView) (s : SwitchModel) → IsKept s → RowHolds r v (taken v s) → IsKept (by_row r v s).switch
