mod PrintingLaws
