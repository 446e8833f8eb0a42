-- The guests of a board, as C lays them out (own).
use Rattle.std.specs.Prelude.{not, ◌==◌, if◌then◌else◌, None, Some}
use Rattle.machine.specs.declared.settings.Setup.{Setup}
use Rattle.machine.specs.declared.starting.Areas.{Areas}
use Rattle.rpmb_host.specs.declared.guests.RpmbGuest.{RpmbGuest}
use Rattle.rpmb_host.specs.declared.queue.RpmbQueue.{RpmbQueue}

-- one of them for a machine
unfoldable pub setup_of : RpmbGuest → Setup
setup_of g = record {
  config = record {
    capacity = g.capacity;
    max_wr_cnt = g.max_wr_cnt;
    max_rd_cnt = g.max_rd_cnt;
    memory = g.memory;
  };
  withheld = g.withheld;
  most = g.most;
  queue = if g.queue == 0 then None else Some g.queue;
  platform = not (g.platform == 0);
}

-- the queue that C's `struct rpmb_queue` means
unfoldable pub areas_of : RpmbQueue → Areas
areas_of q = record {
  size = q.size;
  descriptors = q.descriptors;
  driver = q.driver;
  device = q.device;
}
