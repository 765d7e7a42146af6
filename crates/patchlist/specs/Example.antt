-- The session of program P that document 01 lists, computed: the definition of a session's last record on its bytes.
-- Assumes nothing.
use Rattle.std.specs.Prelude.{◌≡◌, refl, List, [], ◌∷◌, ℕ, take, pos}
use Rattle.rules.specs.Value.{zeros}
use Rattle.rules.specs.Computing.{computing}
use Rattle.patchlist.specs.Session.{opens, room, handed, handed_on, words_of, calls_end, words_end, table_end, session_end}

-- limit 4, inputs 2 10, changes (1 0), (1 0), (-3 0): the bytes of the file `stdin`, the header first, then the table, then a word
-- a line
unfoldable pub session_p : List ℕ
session_p =
    8 ∷ 0 ∷ 66 ∷ 0 ∷ 74 ∷ 0 ∷ 3 ∷ 0
    ∷ 0x49 ∷ 0x4d ∷ 0x50 ∷ 0x54 ∷ 2 ∷ 0 ∷ 6 ∷ 0 ∷ 16 ∷ 0 ∷ 18 ∷ 0 ∷ 66 ∷ 0 ∷ 0 ∷ 0
    ∷ 0 ∷ 0
    ∷ 3 ∷ 0 ∷ 0 ∷ 0 ∷ 0 ∷ 0 ∷ 0 ∷ 0
    ∷ 3 ∷ 1 ∷ 0 ∷ 0 ∷ 0 ∷ 0 ∷ 0 ∷ 0
    ∷ 3 ∷ 0 ∷ 0 ∷ 0 ∷ 0 ∷ 0 ∷ 0 ∷ 0
    ∷ 4 ∷ 0 ∷ 1 ∷ 0 ∷ 2 ∷ 0 ∷ 0 ∷ 0
    ∷ 17 ∷ 1 ∷ 3 ∷ 0 ∷ 0 ∷ 0 ∷ 0 ∷ 0
    ∷ 20 ∷ 0 ∷ 0 ∷ 0 ∷ 4 ∷ 0 ∷ 0 ∷ 0
    ∷ 4 ∷ 0 ∷ 0 ∷ 0 ∷ 0 ∷ 0 ∷ 0 ∷ 0
    ∷ 2 ∷ 0 ∷ 0 ∷ 0 ∷ 0 ∷ 0 ∷ 0 ∷ 0
    ∷ 10 ∷ 0 ∷ 0 ∷ 0 ∷ 0 ∷ 0 ∷ 0 ∷ 0
    ∷ 1 ∷ 0 ∷ 0 ∷ 0 ∷ 0 ∷ 0 ∷ 0 ∷ 0
    ∷ 0 ∷ 0 ∷ 0 ∷ 0 ∷ 0 ∷ 0 ∷ 0 ∷ 0
    ∷ 1 ∷ 0 ∷ 0 ∷ 0 ∷ 0 ∷ 0 ∷ 0 ∷ 0
    ∷ 0 ∷ 0 ∷ 0 ∷ 0 ∷ 0 ∷ 0 ∷ 0 ∷ 0
    ∷ 253 ∷ 255 ∷ 255 ∷ 255 ∷ 255 ∷ 255 ∷ 255 ∷ 255
    ∷ 0 ∷ 0 ∷ 0 ∷ 0 ∷ 0 ∷ 0 ∷ 0 ∷ 0 ∷ []

-- the first patch makes n 3, the second is refused with 9, and the third goes from n = 3 to n = 0
pub program_p_ends : take 14 (session_end session_p (zeros room))
    ≡ pos 13 ∷ pos 4 ∷ pos 1 ∷ pos 0 ∷ pos 10 ∷ pos 0 ∷ pos 10 ∷ pos 5 ∷ pos 6 ∷ pos 1 ∷ pos 0 ∷ pos 0 ∷ pos 10 ∷ pos 0 ∷ []
unfolding computing session_p opens handed handed_on words_of calls_end words_end table_end session_end
program_p_ends = refl
