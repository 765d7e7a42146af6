-- What the contracts of `patchlist` cite: when a session's header is right, which record each patch starts from, and which is
-- the last.
-- Assumes nothing.
use Rattle.std.specs.Prelude.{Bool, ◌&&◌, List, [], ◌∷◌, ◌++◌, ℕ, zero, suc, ◌+◌, ◌*◌, length, take, drop, leb, eqb, ℤ}
use Rattle.rules.specs.Table.{u16}
use Rattle.rules.specs.Outcome.{choose}
use Rattle.rules.specs.Value.{at}
use Rattle.rules.specs.Call.{call_check, call_run, call_patch}
use Rattle.text.specs.Words.{word_at}

-- "four u16 (table offset 8, table length, offset of words = 8 + table length, patch count K 0..64), the table": the header is
-- right and the input does not end inside the table
unfoldable pub opens : List ℕ → Bool
opens s = leb 8 (length s) && (eqb (u16 s 0) 8 && (eqb (u16 s 4) (8 + u16 s 2) && (leb (u16 s 6) 64 && leb (8 + u16 s 2) (length s))))

-- "It has 2,048 words of room for each record"
abbrev pub room : ℕ
room = 2048

-- by the outcome's number: the new record where it is accepted, and the old one where it is refused
abbrev pub kept : ℕ → List ℤ → List ℤ → List ℤ
kept zero old new = new
kept (suc n) old new = old

-- "A refused patch keeps the old record for the next": the record that a patch hands on
unfoldable pub handed : List ℕ → List ℤ → List ℤ → List ℤ
handed table old changes = let called = call_patch table old changes room in kept called.answer.number old called.buffer

-- the record after i patches, by the lists of v changes one behind the other
unfoldable pub handed_on : List ℕ → ℕ → List ℤ → List ℤ → ℕ → List ℤ
handed_on table v lists first zero = first
handed_on table v lists first (suc i) = handed table (handed_on table v lists first i) (take v (drop (i * v) lists))

-- ---- the last record of a session

-- "signed 64-bit words, all little-endian": the first n words of some bytes
unfoldable pub words_of : List ℕ → ℕ → List ℤ
words_of bytes zero = []
words_of bytes (suc n) = words_of bytes n ++ (word_at bytes (8 * n) ∷ [])

-- "limit, V inputs, K lists of V changes": the record after the run and the patches. "A refused run also ends the listing": its
-- buffer is zero
unfoldable pub calls_end : List ℕ → ℕ → ℕ → List ℤ → List ℤ
calls_end table v k words =
    let called = call_run table (take v (drop 1 words)) (at words 0) room in
    kept called.answer.number called.buffer (handed_on table v (drop (1 + v) words) called.buffer k)

-- "a wrong word count prints `session refused`": there is no call
unfoldable pub words_end : List ℕ → ℕ → ℕ → List ℕ → List ℤ → List ℤ
words_end table v k behind last =
    let count = 1 + v + k * v in choose (eqb (length behind) (8 * count)) (calls_end table v k (words_of behind count)) last

-- "a refused table prints `run` and the number and ends"
unfoldable pub table_end : List ℕ → ℕ → List ℕ → List ℤ → List ℤ
table_end table k behind last = kept (call_check table) last (words_end table (u16 table 4) k behind last)

-- "A wrong header, or input that ends inside the table, prints `session refused`"
unfoldable pub session_end : List ℕ → List ℤ → List ℤ
session_end s last = choose (opens s) (table_end (take (u16 s 2) (drop 8 s)) (u16 s 6) (drop (8 + u16 s 2) s) last) last
