mod FirstLaws
