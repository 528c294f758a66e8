-- What is held between bytes that come one at a time: those of what is not whole yet, or none while all is dropped.
use Rattle.std.specs.Prelude.{ℕ, ◌+◌, Bool, true, false, List, eqb, leb, ltb, length, get_or, set, take, drop}
use Rattle.frame.specs.Ground.{pick, both, has, within}
use Rattle.frame.specs.Wire.{enquiry, update_opens, update_closes, longest_update, update_marks, head_size, longest_data}
use Rattle.frame.specs.Receive.{data_length}
use Rattle.frame.specs.declared.holding.Holding.{Holding}
use Rattle.frame.specs.declared.holding.Holding.TheVariants.{Held, Dropping}

-- 02, Wish 6: "A second receiver holds what it needs between bytes": bytes at the front of a lent buffer of 1,024, which is as long as the
-- longest update.
abbrev pub holding_size : ℕ
holding_size = longest_update + update_marks

-- None of them is b.
abbrev pub free_of : ℕ → List ℕ → Bool
free_of b s = pick (has b s) false true

-- Bytes that some burst leaves: none; 02h and up to 1,022 bytes with no 03h; or an identifier other than 02h and 05h, then length bytes,
-- then, with a length up to 550, up to length + 3 bytes in all.
unfoldable pub is_held : List ℕ → Bool
is_held s =
    pick (eqb (length s) 0) true
    (pick (eqb (get_or s 0 0) enquiry) false
    (pick (eqb (get_or s 0 0) update_opens)
    (both (leb (length s) (longest_update + 1)) (free_of update_closes (drop 1 s)))
    (pick (ltb (length s) head_size) true
    (both (leb (data_length s) longest_data) (leb (length s) (data_length s + head_size))))))

-- 02, Wish 6: 1 "for a holding that no burst leaves": so many bytes of the buffer, or none while all is dropped.
unfoldable pub is_holding : Holding → List ℕ → Bool
is_holding (Held n) buffer = both (eqb (length buffer) holding_size) (both (ltb n holding_size) (is_held (take n buffer)))
is_holding Dropping buffer = eqb (length buffer) holding_size

-- 02, Wish 6: "silence always empties it, unanswered".
abbrev pub silenced : Holding → Holding
silenced holding = Held 0

-- What is held behind a byte, by its number: 1 and 2 "leave the byte untaken"; with 3 it is held, or dropped while all is; "After 4 it drops
-- all until silence"; with every other number it was the last of what was held.
abbrev pub holding_behind : Holding → ℕ → Holding
holding_behind (Held n) number =
    pick (within 1 2 number) (Held n) (pick (eqb number 3) (Held (n + 1)) (pick (eqb number 4) Dropping (Held 0)))
holding_behind Dropping number = Dropping

-- The buffer behind a byte: a byte that is taken stands behind those that were held.
abbrev pub buffer_behind : Holding → List ℕ → ℕ → ℕ → List ℕ
buffer_behind (Held n) buffer byte number = pick (within 1 2 number) buffer (set buffer n byte)
buffer_behind Dropping buffer byte number = buffer
