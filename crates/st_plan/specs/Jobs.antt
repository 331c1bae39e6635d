-- What the plans of the commands have.
use Rattle.std.specs.Prelude.{ℕ}
use Rattle.clap.specs.Words.{Text}
use Rattle.st_base.specs.declared.limits.Limits.{Limits}
use Rattle.st_pcap.specs.declared.forms.Unit as unit
use Rattle.st_plan.specs.declared.jobs.LanePlan.{LanePlan}

-- a query, with the unit of its answer's times and the limits of its answer
pub record Job : Type 0 where
  pub query : Text
  pub unit : unit.Unit
  pub limits : Limits

-- new pairs for the spool in this folder, with the layout of their block files and the number of
-- pairs that are kept at most
pub record LoadPlan : Type 0 where
  pub folder : Text
  pub plan : LanePlan
  pub limit : ℕ

-- a query over the spool in this folder
pub record QueryPlan : Type 0 where
  pub folder : Text
  pub job : Job

-- so many packets that are made up for the spool in this folder
pub record DrillPlan : Type 0 where
  pub folder : Text
  pub packets : ℕ

-- the spool in this folder
pub record SpoolPlan : Type 0 where
  pub folder : Text
