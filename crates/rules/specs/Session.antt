-- Document 01's session, whole: the bytes of its log and the text printed for it.
use Rattle.std.specs.Prelude.{ℕ, List, [], ◌∷◌}

-- 800C0005 40000400 40000401 40040C03 C0000003
abbrev pub session_bytes : List ℕ
session_bytes = 0x80 ∷ 0x0C ∷ 0x00 ∷ 0x05 ∷ 0x40 ∷ 0x00 ∷ 0x04 ∷ 0x00 ∷ 0x40 ∷ 0x00 ∷ 0x04 ∷ 0x01 ∷ 0x40 ∷ 0x04 ∷ 0x0C ∷ 0x03 ∷ 0xC0 ∷ 0x00 ∷ 0x00 ∷ 0x03 ∷ []

-- 4 6 1 3
-- 0 1 1-2 2-3
-- 0 3 2-5
-- 1 3 4-5
abbrev pub session_text : List ℕ
session_text = 52 ∷ 32 ∷ 54 ∷ 32 ∷ 49 ∷ 32 ∷ 51 ∷ 10 ∷ 48 ∷ 32 ∷ 49 ∷ 32 ∷ 49 ∷ 45 ∷ 50 ∷ 32 ∷ 50 ∷ 45 ∷ 51 ∷ 10 ∷ 48 ∷ 32 ∷ 51 ∷ 32 ∷ 50 ∷ 45 ∷ 53 ∷ 10 ∷ 49 ∷ 32 ∷ 51 ∷ 32 ∷ 52 ∷ 45 ∷ 53 ∷ 10 ∷ []
