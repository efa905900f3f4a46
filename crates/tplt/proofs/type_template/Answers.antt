-- `tplt::type_template` meets its contract: not sound, a number that is no type, or what the head and the list come to. Assumes nothing.
use Rattle.tplt.proofs.OutcomeLaws.{unsound-outcome, unknown-outcome, refusal-done, list-below, call-fit, call-done, call-wrong}
use Rattle.table.proofs.SoundLaws.{sound-of}
use mathlib.Core.Path.{refl, sym, ◌∙◌}
use Rattle.tplt.proofs.type_template.Goals as goal

pub returns-then-not-sound : goal.returns-then-not-sound
returns-then-not-sound c = let a = c.args in
    refusal-done a.words.now a.n a.head.now a.args.now _
    (unsound-outcome a.words.now a.n a.head.now a.args.now (sym c.sound.ensures ∙ c.if-not-sound.true)) c.refused.result c.refused.ensures.made refl

pub returns-then-not-types_known : goal.returns-then-not-types_known
returns-then-not-types_known c = let a = c.args in
    refusal-done a.words.now a.n a.head.now a.args.now _
    (unknown-outcome a.words.now a.n a.head.now a.args.now (sym c.sound.ensures ∙ c.if-not-sound.false) (sym c.types_known.ensures ∙ c.if-not-types_known.true))
    c.refused-then-not-types_known.result c.refused-then-not-types_known.ensures.made refl

pub parse-requires : goal.parse-requires
parse-requires c = let a = c.args in
    let s = sound-of a.words.now a.n (sym c.sound.ensures ∙ c.if-not-sound.false) in
    record { sound = s; below = list-below a.words.now a.n a.head.now a.args.now s c.arguments_of.result c.arguments_of.ensures }

pub enter_parsed-requires : goal.enter_parsed-requires
enter_parsed-requires c = let a = c.args in
    let s = sound-of a.words.now a.n (sym c.sound.ensures ∙ c.if-not-sound.false) in
    record { sound = s; fit = call-fit a.words.now a.n a.head.now a.args.now s c.head_of.result c.head_of.ensures c.arguments_of.result c.arguments_of.ensures c.parse.result c.parse.ensures c.in-Ok.p c.in-Ok.is }

pub returns-in-Ok : goal.returns-in-Ok
returns-in-Ok c = let a = c.args in
    let t = sym c.sound.ensures ∙ c.if-not-sound.false in
    call-done a.words.now a.n a.head.now a.args.now (sound-of a.words.now a.n t) c.head_of.result c.head_of.ensures c.arguments_of.result c.arguments_of.ensures c.parse.result c.parse.ensures
    t (sym c.types_known.ensures ∙ c.if-not-types_known.false) c.in-Ok.p c.in-Ok.is _ _ c.enter_parsed.ensures

pub returns-in-Err : goal.returns-in-Err
returns-in-Err c = let a = c.args in
    let t = sym c.sound.ensures ∙ c.if-not-sound.false in
    call-wrong a.words.now a.n a.head.now a.args.now (sound-of a.words.now a.n t) c.head_of.result c.head_of.ensures c.arguments_of.result c.arguments_of.ensures c.parse.result c.parse.ensures
    t (sym c.types_known.ensures ∙ c.if-not-types_known.false) c.in-Err.r c.in-Err.is c.refused-in-Err.result c.refused-in-Err.ensures.made
