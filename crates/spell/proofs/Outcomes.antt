-- The four outcomes of asking for a spelling. Assumes nothing.
use Prim.Native.Nat.{ℕ, ◌≤◌, ◌<◌}
use mathlib.Core.Path.{◌≡◌}
use mathlib.Core.Bool.{false}
use mathlib.Core.List.{List}
use lib.ListN.{length}
use lib.Seq.{sets}
use borrow.Author.Tests.{lt-ltb, le-ltb, le-leb, lt-leb}
use Rattle.table.specs.Table.{soundb, Sound}
use Rattle.answer.specs.declared.TypeNo.{TypeNo}
use Rattle.answer.specs.declared.Reason.TheVariants.{Unsound, NoSuchType, TooLong}
use Rattle.table.proofs.SoundLaws.{of-sound}
use Rattle.std.specs.Prelude.{Ok}
use Rattle.spell.specs.Reply.{spelling_at, in_order, refuse_spelling, spell_reply, spell_numbers, spell_bytes, SpellDone}
use Rattle.text.proofs.Puts.{over-room}

module _ (w : List ℕ) (n : ℕ) (t : TypeNo) (d : List ℕ) where
  -- 1
  pub at-unsound : soundb w n ≡ false → SpellDone w n t d (refuse_spelling Unsound n) d
  unfolding spell_reply spell_numbers spell_bytes in_order
  at-unsound h = record { reply = rw h; numbers = rw h; bytes = rw h }

  module _ (s : Sound w n) where
    -- 2
    pub at-beyond : n ≤ t.0 → SpellDone w n t d (refuse_spelling NoSuchType n) d
    unfolding spell_reply spell_numbers spell_bytes in_order
    at-beyond h =
        let x = of-sound w n s in
        let y = le-ltb t.0 n h in
        record { reply = rw (x, y); numbers = rw (x, y); bytes = rw (x, y) }

    -- 12
    pub at_long : t.0 < n → length d < length (spelling_at w t) → SpellDone w n t d (refuse_spelling TooLong n) d
    unfolding spell_reply spell_numbers spell_bytes in_order
    at_long h l =
        let x = of-sound w n s in
        let y = lt-ltb t.0 n h in
        let z = lt-leb (length (spelling_at w t)) (length d) l in
        record { reply = rw (x, y, z); numbers = rw (x, y, z); bytes = rw (x, y, z) }

    -- the length
    pub at-fits : t.0 < n → length (spelling_at w t) ≤ length d → SpellDone w n t d (Ok (length (spelling_at w t))) (sets d 0 (spelling_at w t))
    unfolding spell_reply spell_numbers spell_bytes in_order
    at-fits h l =
        let x = of-sound w n s in
        let y = lt-ltb t.0 n h in
        let z = le-leb (length (spelling_at w t)) (length d) l in
        record { reply = rw (x, y, z); numbers = rw (x, y, z); bytes = rw (x, y, z) (over-room (spelling_at w t) d l) }
