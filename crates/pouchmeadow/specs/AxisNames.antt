-- Each axis of the enum is the one that document 01's table has at its code: the same name, and so the same kind and set. Computed. Assumes nothing.
use Rattle.std.specs.Prelude.{◌≡◌, refl}
use Rattle.meaning.specs.Axes.{bytes, axes, axis_of}
use Rattle.meaning.specs.AxisCodes.{code_of}
use Rattle.meaning.specs.declared.Axis.TheVariants.{Child, ChildPlus, ChildStar, NextSibling, NextSiblingPlus, NextSiblingStar, Following}

pub axis_names :
    ((axis_of (code_of Child)).name ≡ bytes "Child")
    × ((axis_of (code_of ChildPlus)).name ≡ bytes "Child+")
    × ((axis_of (code_of ChildStar)).name ≡ bytes "Child*")
    × ((axis_of (code_of NextSibling)).name ≡ bytes "NextSibling")
    × ((axis_of (code_of NextSiblingPlus)).name ≡ bytes "NextSibling+")
    × ((axis_of (code_of NextSiblingStar)).name ≡ bytes "NextSibling*")
    × ((axis_of (code_of Following)).name ≡ bytes "Following")
unfolding axis_of axes bytes
axis_names = (refl, refl, refl, refl, refl, refl, refl)
