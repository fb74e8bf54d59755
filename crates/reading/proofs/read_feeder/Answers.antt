-- `reading::read_feeder` meets its contract: the network, or the refusal. Assumes nothing.
use Rattle.std.proofs.lemmas.Result.{err_from_is_err_and}
use mathlib.Core.Path.{refl}
use Rattle.reading.specs.Reading.{as-points, as-told, into-as, into-as-bad}
use Rattle.reading.proofs.read_feeder.Goals as goal

pub returns-in_err-read_into : goal.returns-in_err-read_into
returns-in_err-read_into c =
    let p = err_from_is_err_and c.from_residual.result c.from_residual.ensures.1 in
    rw (p.1, p.2) (let h = into-as-bad _ c.in_err-read_into.ensures refl in record { answer = h; told = as-told h; first = as-points _ h })

pub returns : goal.returns
returns c = let h = into-as c.in_ok-read_into.field-0 c.in_ok-read_into.ensures refl in record { answer = h; told = as-told h; first = as-points _ h }
