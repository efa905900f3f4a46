-- The spellings that documents 01 and 02 write out, and one of each other kind, letter by letter: all compute. Assumes nothing.
use mathlib.Core.Path.{◌≡◌, refl}
use Rattle.conv.specs.Types.{abstract_int, abstract_float, i32, u32, f32, f16, storage, handle, read, write}
use Rattle.conv.specs.Types.Ty.{scalar, vec, mat, array, runtime, atomic, ptr, ref, frexp, modf, exchange}
use Rattle.text.specs.Text.{ascii, decimal_by, decimal}
use Rattle.spell.specs.Spell.{named, fract_scalar, fract_name, spelling}

pub written_out :
    (spelling (scalar abstract_int) ≡ ascii "AbstractInt") ×
    (spelling (vec 2 f32) ≡ ascii "vec2<f32>") ×
    (spelling (mat 4 3 f16) ≡ ascii "mat4x3<f16>") ×
    (spelling (array 4 (vec 2 f32)) ≡ ascii "array<vec2<f32>,4>") ×
    (spelling (array 4294967295 (scalar u32)) ≡ ascii "array<u32,4294967295>") ×
    (spelling (runtime (scalar u32)) ≡ ascii "array<u32>") ×
    (spelling (atomic i32) ≡ ascii "atomic<i32>") ×
    (spelling (ptr storage read (scalar u32)) ≡ ascii "ptr<storage,u32,read>") ×
    (spelling (ref handle write (scalar f32)) ≡ ascii "ref<handle,f32,write>") ×
    (spelling (frexp (vec 2 abstract_float)) ≡ ascii "__frexp_result_vec2_abstract") ×
    (spelling (modf (vec 3 f16)) ≡ ascii "__modf_result_vec3_f16") ×
    (spelling (exchange i32) ≡ ascii "__atomic_compare_exchange_result<i32>") ×
    (spelling (exchange u32) ≡ ascii "__atomic_compare_exchange_result<u32>")
unfolding ascii named decimal_by decimal fract_scalar fract_name spelling
written_out = (refl, refl, refl, refl, refl, refl, refl, refl, refl, refl, refl, refl, refl)
