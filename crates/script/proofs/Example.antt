-- The example of the rules: the whole output for its input, to the letter.
-- Assumes nothing.
use mathlib.Core.Path.{◌≡◌, refl}
use lib.ListN.{replicate}
use Rattle.model.specs.Orders.{alloc_order, free_order, init_order, totals_order}
use Rattle.heap.specs.Valid.{valid}
use Rattle.script.specs.Text.{ascii, number_in, decimal}
use Rattle.script.specs.Commands.{read_line}
use Rattle.script.specs.Machine.{make_order}
use Rattle.script.specs.Session.{output}

-- It is lent what `heapscript` lends: 2,048 words and 65,536 bytes, all zero.
pub example : output (replicate 2048 0) (replicate 65536 0)
    (ascii "limit 1 5 2\nlimit 2 3 2\nmake 128 8\nask 1 40 16\nask 2 16 32\nask 1 17 16\nask 1 1 16\nback 2 0\nback 1 0\nask 2 33 16\nask 2 32 64\nask 1 48 16\n")
    ≡ ascii "ok 5\nok 3\nok 128\nok 0\nok 64\nok 80\nno 5\nno 10\nok 48\nno 6\nok 0\nno 7\nseg 0 32 2 32\nseg 32 32 0 0\nseg 64 16 2 16\nseg 80 32 1 17\nseg 112 16 0 0\nsum 80 48 96 32\n"
unfolding valid decimal number_in read_line make_order init_order alloc_order free_order totals_order
example = refl
