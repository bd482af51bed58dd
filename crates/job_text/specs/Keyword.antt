-- The words that begin a line.
use Rattle.std.specs.Prelude.{ℕ, List, if◌then◌else◌, codes, bytes_eq, Option, Some, None}
use Rattle.tn_base.specs.declared.shape.ShapeNumbers.{ShapeNumbers}
use Rattle.job_text.specs.declared.keyword.Setting.{Setting}
use Rattle.job_text.specs.declared.keyword.Setting.TheVariants.{Slots, Link, Mem, Fuel, Turn}
use Rattle.job_text.specs.declared.keyword.Keyword.{Keyword}
use Rattle.job_text.specs.declared.keyword.Keyword.TheVariants.{Number, Code, Asm, Fill, Table, Host, Graph}

abbrev pub keyword_of : List ℕ → Option Keyword
keyword_of w =
    if bytes_eq w (codes "slots") then Some (Number Slots)
    else (if bytes_eq w (codes "link") then Some (Number Link)
    else (if bytes_eq w (codes "mem") then Some (Number Mem)
    else (if bytes_eq w (codes "fuel") then Some (Number Fuel)
    else (if bytes_eq w (codes "turn") then Some (Number Turn)
    else (if bytes_eq w (codes "code") then Some Code
    else (if bytes_eq w (codes "asm") then Some Asm
    else (if bytes_eq w (codes "fill") then Some Fill
    else (if bytes_eq w (codes "table") then Some Table
    else (if bytes_eq w (codes "host") then Some Host
    else (if bytes_eq w (codes "graph") then Some Graph
    else None))))))))))

abbrev pub setting_in : Setting → ShapeNumbers → ℕ
setting_in Slots numbers = numbers.slots
setting_in Link numbers = numbers.link
setting_in Mem numbers = numbers.mem
setting_in Fuel numbers = numbers.fuel
setting_in Turn numbers = numbers.turn

abbrev pub with_setting : Setting → ℕ → ShapeNumbers → ShapeNumbers
with_setting Slots n numbers = record numbers { slots = n }
with_setting Link n numbers = record numbers { link = n }
with_setting Mem n numbers = record numbers { mem = n }
with_setting Fuel n numbers = record numbers { fuel = n }
with_setting Turn n numbers = record numbers { turn = n }
