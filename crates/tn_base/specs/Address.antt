-- Addresses of threads and tiles. From the lowest bit: thread (four bits), core, tile x, tile y, board x, board y (two each).
use Rattle.std.specs.Prelude.{ℕ, ◌+◌, ◌*◌, ◌/◌, ◌%◌, ◌==◌, ◌&&◌, Bool, nat_lt}
use Rattle.tn_base.specs.declared.shape.ShapeNumbers.{ShapeNumbers}

-- the fields of an address that name a tile are below the machine's numbers, and no higher bit is set
abbrev pub names_tile : ShapeNumbers → ℕ → Bool
names_tile n a =
    nat_lt a 16384
    && nat_lt (a / 64 % 4) n.tiles_x
    && nat_lt (a / 256 % 4) n.tiles_y
    && nat_lt (a / 1024 % 4) n.boards_x
    && nat_lt (a / 4096 % 4) n.boards_y

-- the machine has a thread of this address
abbrev pub has_thread : ShapeNumbers → ℕ → Bool
has_thread n a = names_tile n a && nat_lt (a % 16) n.threads && nat_lt (a / 16 % 4) n.cores

-- the machine has a tile of this address
abbrev pub has_tile : ShapeNumbers → ℕ → Bool
has_tile n a = names_tile n a && a % 64 == 0

-- the lowest digit of `i`, of `m` values, stands lowest in the address; the address of the other digits stands above it, times `w`
abbrev pub above : ℕ → ℕ → (ℕ → ℕ) → ℕ → ℕ
above w m others i = others (i / m) * w + i % m

-- the address of the `i`-th thread, whose digits are its thread, core, tile x, tile y, board x and board y, the lowest first
abbrev pub thread_at : ShapeNumbers → ℕ → ℕ
thread_at n =
    above 16 n.threads (above 4 n.cores (above 4 n.tiles_x (above 4 n.tiles_y (above 4 n.boards_x (λ i. i)))))

-- the address of the tile that a thread is on
abbrev pub tile_of : ℕ → ℕ
tile_of a = a / 64 * 64

-- how many threads a tile has
abbrev pub tile_threads : ShapeNumbers → ℕ
tile_threads n = n.cores * n.threads

-- a thread's place among those of its tile, by ascending address
abbrev pub place_in_tile : ShapeNumbers → ℕ → ℕ
place_in_tile n a = a / 16 % 4 * n.threads + a % 16

-- the address of the thread at a place of a tile
abbrev pub in_tile : ShapeNumbers → ℕ → ℕ → ℕ
in_tile n tile k = tile + k / n.threads * 16 + k % n.threads

-- a tile's place among those of the machine, by ascending address
abbrev pub tile_place : ShapeNumbers → ℕ → ℕ
tile_place n a = ((a / 4096 % 4 * n.boards_x + a / 1024 % 4) * n.tiles_y + a / 256 % 4) * n.tiles_x + a / 64 % 4
