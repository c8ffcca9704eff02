-- The texts of `Worked`, by computation.
use mathlib.Core.Path.{◌≡◌, refl}
use mathlib.Core.List.{map}
use Rattle.classes.specs.Classes.{bytes, among, blank, alphanumeric}
use Rattle.attr.specs.Attributes.{name, by, step, fed, is_decided}
use Rattle.attr.specs.Work.{looks, work}
use Rattle.attr.specs.Worked.{worked, found, expected}

pub led-rows : map found worked ≡ map expected worked
unfolding worked bytes among blank alphanumeric name by step fed
led-rows = refl

-- 16 bytes at which a comment, a quoted value and braces are all under way: 49 looks, more than three a byte
pub looked-row : work (bytes "{%{a=\"{{{{{{{{{{") ≡ 49
unfolding bytes among blank alphanumeric name by step is_decided looks work
looked-row = refl
