-- What is kept in lists that contracts alone see.
use Rattle.std.specs.Prelude.{List, [], ◌∷◌}
use Rattle.tm_rv.specs.declared.instr.Set.TheVariants as set
use Rattle.tm_image.specs.Image.{ImageView, image_with}
use Rattle.tm_image.specs.Draft.{empty_draft}

-- the image that a list begins with; an empty one stands for none
abbrev pub image_in : List ImageView → ImageView
image_in [] = image_with [] (empty_draft set.Base)
image_in (image ∷ _) = image
