-- What a drawn job says before the lines of its vertices and edges.
use Rattle.std.specs.Prelude.{ℕ, List, codes}

-- a machine of four boards, the program of the vertices, and their kind `sum`. A vertex's words are its value, the sum of what it
-- received since the last step, and the steps that are left. In a step it adds the sum to its value and sends the value by its one pin. At
-- the end it sends its number and its value to the host
unfoldable pub head : List ℕ
head = codes "tinsel 1\nshape 2 2 2 2 1 4\nasm all\nsum_init: li a0, 1\nret\nsum_send: lw a2, 0(a0)\nsw a2, 4(a1)\nli a0, 0\nret\nsum_recv: lw a2, 4(a1)\nlw a3, 4(a0)\nadd a3, a3, a2\nsw a3, 4(a0)\nmv a0, a4\nret\nsum_step: lw a2, 0(a0)\nlw a3, 4(a0)\nadd a2, a2, a3\nsw a2, 0(a0)\nsw x0, 4(a0)\nlw a3, 8(a0)\naddi a3, a3, -1\nsw a3, 8(a0)\nli a1, 0\nbeqz a3, stop\nli a1, 1\nstop: mv a0, a1\nret\nsum_finish: sw a3, 0(a1)\nlw a2, 0(a0)\nsw a2, 4(a1)\nli a0, 1\nret\nend\ngraph 1 64\nkind sum 1 3\n"
