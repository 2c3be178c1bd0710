-- The plan that a module and its layout make.
use Rattle.link_model.specs.Plan.{Plan}
use Rattle.link_model.specs.Module.{Module, Placing, parts_of_module}

abbrev pub plan_with : Module → Placing → Plan
plan_with m l =
    record {
      parts = parts_of_module m;
      entry = l.entry;
      lo = m.lo;
      hi = m.hi;
      pages = l.pages;
      places = l.places;
      slots = l.slots;
    }
