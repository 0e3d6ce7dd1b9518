-- A valid table has all that the rules of width and space need.
use Rattle.rt_tech.specs.declared.table.Tech.{Tech}
use Rattle.rt_tech.specs.Tech.{IsValidTech, IsMeasured}

pub measured : (tech : Tech) → IsValidTech tech → IsMeasured tech
measured tech valid = record {
  grid = valid.grid;
  some_masks = valid.some_masks;
  few_masks = valid.few_masks;
  masks = λ i d h.
      let mask = valid.masks i d h in
      record { name = mask.name; no_channel = mask.no_channel; layer = mask.layer; datatype = mask.datatype; width = mask.width; space = mask.space };
  apart = λ i j d h k.
      let apart = valid.apart i j d h k in
      record { names = apart.names; pairs = apart.pairs };
}
