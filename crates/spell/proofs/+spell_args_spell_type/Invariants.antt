-- The measure is twice the entry's number, and one more for the type: from a type to its arguments it falls by one, from there to the elem by more, since the
-- elem's number is smaller.
use Rattle.std.proofs.Common.{◌+◌, ◌*◌}
use Rattle.spell.proofs.+spell_args_spell_type.Given as goal

abbrev pub decreases-spell_args : goal.decreases-spell_args
decreases-spell_args l = l.i * 2

abbrev pub decreases-spell_type : goal.decreases-spell_type
decreases-spell_type l = l.i * 2 + 1
