-- `text::put_number` meets its contract: the last digit stands after the digits of a tenth of the number, which is smaller. Assumes nothing.
use Rattle.std.proofs.Common.{◌≡◌, ◌%◌, ◌/◌, arith}
use Rattle.text.proofs.Decimals.{dec-one, dec-more, dec-long}
use Rattle.text.proofs.Puts.{put-put}
use Rattle.text.proofs.+put_number.Goals as goal

pub returns-then-n-lt10 : goal.returns-then-n-lt10
returns-then-n-lt10 t c =
    let a = c.args in
    let e : a.n % 10 ≡ a.n = omega arith in
    rw (dec-one a.n (omega arith)) (rw e at c.put_byte.ensures)

pub put_byte-requires-2 : goal.put_byte-requires-2
put_byte-requires-2 t c = omega (arith, c.put_number-next.ensures.place, dec-long (c.args.n / 10))

pub returns : goal.returns
returns t c = rw (dec-more c.args.n (omega arith)) (put-put c.put_number-next.ensures c.put_byte-2.ensures)
