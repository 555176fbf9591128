-- Two readings take the same items from the beginning on, so they end or stop at the same place.
use Rattle.cs_pattern.proofs.OnText.Readings as readings
use Rattle.cs_pattern.proofs.OnText.Pairs.{pair_is}
use Rattle.cs_pattern.proofs.text.laws.one_reading.Goals as goal

pub returns-clause-items : goal.returns-clause-items
returns-clause-items c = readings.one_reading

pub returns-clause-stop : goal.returns-clause-stop
returns-clause-stop c = λ bytes x y s t. let e = readings.one_stop bytes x.0 y.0 x.1 y.1 s t in pair_is x y e.0 e.1

pub returns-clause-either : goal.returns-clause-either
returns-clause-either c = λ bytes xs stop r s. readings.no_stop bytes xs stop.0 stop.1 r s
