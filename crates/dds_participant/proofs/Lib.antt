mod WatchingLaws
